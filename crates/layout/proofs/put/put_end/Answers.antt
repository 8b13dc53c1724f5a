-- A block is ended by what closes it and then its check.
use Rattle.std.proofs.Common.{◌+◌, ◌*◌, ap, ◌∙◌, ap₂}
use Rattle.inspect.specs.Format.{block, check_of}
use Rattle.layout.specs.Cursors.{check_bytes, ended}
use Rattle.layout.specs.Pasted.{pasted}
use Rattle.layout.proofs.put.put_end.Goals as goal

pub returns : goal.returns
unfolding ended
returns c =
    let laid = c.put_closing.ensures in
    c.put_check.ensures ∙ ap₂ (λ ys k. pasted ys (k * 512 + 510) (check_bytes (check_of (block ys k)))) laid (ap (λ d. d.block) c.cursor.view_is)
