use Rattle.std.proofs.Common.{rules}
use Rattle.std.proofs.lemmas.Iterator.{YieldsList-from_map, YieldsList-from_slice}
use Rattle.std.proofs.lemmas.Iterator.Adapters.{items_from_extend}
use Rattle.inspect.specs.Contents.{read}
use Rattle.sheet.proofs.strings.append.Goals as goal

pub returns-clause-items : goal.returns-clause-items
returns-clause-items c =
    let h = items_from_extend c.extend.result c.extend.ensures.ran (YieldsList-from_map _ read (YieldsList-from_slice c.args.bytes.now cc) c.map.ensures.closure (λ x r q k. search rules)) in
    search rules
