-- What a sheet without a fault says, computed from its bytes. Assumes nothing.
use Rattle.std.specs.Prelude.{ℕ, ◌-◌, ◌*◌, List, [], map, replicate}
use Rattle.std.specs.Option.{unwrap_or}
use Rattle.formula.specs.declared.token.Token.{Token}
use Rattle.formula.specs.declared.token.Token.TheVariants.{False}
use Rattle.formula.specs.Tokens.{token}
use Rattle.inspect.specs.declared.head.Head.{Head}
use Rattle.inspect.specs.Format.{blocks, block, head}
use Rattle.inspect.specs.Entries.{Placed, all_entries}
use Rattle.inspect.specs.Denotes.{Entry, Content, laid}

-- the token that a byte stands for. (A byte that stands for none is a fault, and what is said of it here is never used.)
abbrev pub read : ℕ → Token
read b = unwrap_or (token b) False

abbrev pub entry_of : Placed → Entry
entry_of p = record { location = p.location; letter = p.letter; tokens = map read p.tokens }

abbrev pub contents : List ℕ → Content
contents xs =
    let h : Head = head (block xs 0) in
    record {
      head = h;
      formulas = laid h.letters (replicate (h.locations * h.letters) []) (map entry_of (all_entries xs 1 (blocks xs - 1)));
    }
