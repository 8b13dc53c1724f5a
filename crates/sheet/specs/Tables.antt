-- The token strings that a table holds. Assumes nothing.
use Rattle.std.specs.Prelude.{List, vec_items}
use Rattle.formula.specs.declared.token.Token.{Token}
use Rattle.sheet.specs.declared.table.Table.{Table}
use Rattle.sheet.specs.Spans.{parts}

abbrev pub formulas : Table → List (List Token)
formulas t = parts (vec_items t.spans) (vec_items t.tokens)
