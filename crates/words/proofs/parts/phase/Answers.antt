use Rattle.rules.specs.Encoding.{view_of}
use Rattle.words.proofs.parts.phase.Goals as goal

pub returns : goal.returns
unfolding view_of
returns c = c.in_part.ensures
