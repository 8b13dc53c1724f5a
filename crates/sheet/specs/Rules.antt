-- What a rule holds. Assumes nothing.
use Rattle.std.specs.Prelude.{◌≡◌, ℕ, ◌+◌, ◌*◌, Bool, false, cond, ◌&&◌, List, [], ◌∷◌, nat_lt, slice_index_or}
use Rattle.std.specs.Option.{unwrap_or}
use Rattle.formula.specs.declared.token.Token.{Token}
use Rattle.formula.specs.Formulas.{Formula, never}
use Rattle.formula.specs.Machine.{Spells, evaluated}
use Rattle.formula.specs.Sets.{has}
use Rattle.inspect.specs.Denotes.{Content}
use Rattle.sheet.specs.declared.headed.Headed.{Headed}
use Rattle.sheet.specs.declared.table.Table.{Table}
use Rattle.sheet.specs.contracts.rule.TableCells.TheImpl.{ghosts}
use Rattle.sheet.specs.Automata.{with_formulas}
use Rattle.sheet.specs.Tables.{formulas}

-- a head with a table of formulas
abbrev pub Rule : Type 0
Rule = Headed Table ghosts

-- a rule keeps exactly the entries and tokens of its sheet
abbrev pub rule_content : Rule → Content
rule_content r = with_formulas r.head (formulas r.cells)

-- a rule is, entry by entry and token by token, what its sheet denotes
abbrev pub IsRule : Rule → Content → Type 0
IsRule r c = rule_content r ≡ c

-- the tokens for a location and a letter: none where there is no entry
abbrev pub formula_of : Content → ℕ → ℕ → List Token
formula_of c l a = cond (nat_lt l c.head.locations && nat_lt a c.head.letters) (slice_index_or c.formulas (l * c.head.letters + a) []) []

-- the formula that tokens mean: the one that they spell, and false where there are none
abbrev pub Means : List Token → Formula → Type 0
Means [] f = f ≡ never
Means (t ∷ ts) f = Spells f (t ∷ ts)

-- whether a set satisfies what tokens mean: no set satisfies no tokens
abbrev pub holds : List Token → ℕ → Bool
holds ts set = unwrap_or (evaluated (has set) ts) false
