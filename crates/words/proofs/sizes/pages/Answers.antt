use Rattle.rules.specs.Encoding.{view_of}
use Rattle.words.proofs.sizes.pages.Goals as goal

pub returns : goal.returns
unfolding view_of
returns c = c.word.ensures
