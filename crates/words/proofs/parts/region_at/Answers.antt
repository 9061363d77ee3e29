use Rattle.rules.specs.Encoding.{view_of}
use Rattle.words.proofs.parts.region_at.Goals as goal

pub returns : goal.returns
unfolding view_of
returns c = rw (c.cell-first.ensures, c.cell-pages.ensures)
