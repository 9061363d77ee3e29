use Rattle.rules.specs.Encoding.{view_of}
use Rattle.words.proofs.parts.made.Goals as goal

pub returns : goal.returns
unfolding view_of
returns c = rw (c.upper.ensures, c.fence_word.ensures)
