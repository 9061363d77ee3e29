use native.Mathlib.Omega.{arith}
use Rattle.records.proofs.Bytes.{record_put}
use Rattle.records.proofs.record.write.Goals as goal

pub returns : goal.returns
returns c =
    let fits = c.well_formed.1.1.0.1.1 in
    rw (c.copy_from_slice.ensures.after, c.copy_from_slice-2.ensures.after, c.to_le_bytes.ensures, c.to_le_bytes-2.ensures)
    (record_put c.args.t.now c.args.i c.args.p c.requires (fits.1.1.0.1, fits.1.1.1.0.1) _ _ (omega arith) (omega arith))
