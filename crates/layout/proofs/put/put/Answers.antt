-- A slice that is copied over a part is laid there.
use Rattle.std.proofs.Common.{refl}
use Rattle.layout.proofs.Pastes.{pasted_part}
use Rattle.layout.proofs.put.put.Goals as goal

pub returns : goal.returns
returns c = pasted_part c.args.out.now _ c.args.bytes.now c.args.at _ c.copy_from_slice.ensures.after refl
