use mathlib.Core.Path.{◌∙◌, ap}
use Rattle.rules.specs.Encoding.{view_of, tracker_of}
use Rattle.words.proofs.parts.fence.Goals as goal

pub returns : goal.returns
unfolding view_of
returns c = c.unpack.ensures ∙ ap tracker_of c.fence_word.ensures
