-- What a sheet denotes, in the words of the format. Assumes nothing.
use Rattle.std.specs.Prelude.{◌≡◌, ℕ, zero, suc, ◌+◌, ◌-◌, ◌*◌, ◌<◌, ◌≤◌, true, ◌⊎◌, List, [], ◌∷◌, ◌++◌, map, length, replicate, Some, slice_set}
use Rattle.std.specs.List.{AllByRecursion}
use Rattle.formula.specs.declared.token.Token.{Token}
use Rattle.formula.specs.Tokens.{code}
use Rattle.formula.specs.Formulas.{Formula}
use Rattle.formula.specs.Machine.{Spells}
use Rattle.inspect.specs.declared.fault.Refusal.{Refusal}
use Rattle.inspect.specs.declared.head.Asked.{Asked}
use Rattle.inspect.specs.declared.head.Head.{Head}
use Rattle.inspect.specs.Format.{blocks, block, byte, body, check_of, check_stated, kind, sort_of, takes, head}
use Rattle.inspect.specs.Checks.{allowed, FirstFault}

pub record Entry : Type 0 where
  pub location : ℕ
  pub letter : ℕ
  pub tokens : List Token

-- what a sheet says: its head, and the tokens for each location and letter, by location and then by letter. No tokens
-- stand where there is no entry.
pub record Content : Type 0 where
  pub head : Head
  pub formulas : List (List Token)

-- an entry is location, letter, length, then that many tokens
abbrev pub entry_bytes : Entry → List ℕ
entry_bytes e = e.location ∷ e.letter ∷ length e.tokens ∷ map code e.tokens

-- these bytes are the entries es, and then the end of the block or FF and anything
abbrev pub Lies : List ℕ → List Entry → Type 0
Lies bytes [] = (bytes ≡ []) ⊎ ((rest : List ℕ) × (bytes ≡ 0xff ∷ rest))
Lies bytes (e ∷ es) = (rest : List ℕ) × (bytes ≡ entry_bytes e ++ rest) × Lies rest es

-- n blocks from block k on hold these entries, in order
abbrev pub Fills : List ℕ → ℕ → ℕ → List Entry → Type 0
Fills xs k zero es = es ≡ []
Fills xs k (suc n) es = (front back : List Entry) × (es ≡ front ++ back) × Lies (body (block xs k)) front × Fills xs (suc k) n back

-- by location and then by letter
abbrev pub Before : Entry → Entry → Type 0
Before e f = (e.location < f.location) ⊎ ((e.location ≡ f.location) × (e.letter < f.letter))

abbrev pub Rising : List Entry → Type 0
Rising [] = Unit {0}
Rising (e ∷ []) = Unit {0}
Rising (e ∷ f ∷ es) = Before e f × Rising (f ∷ es)

-- an entry is about a location and a letter of the head, and its tokens spell a formula that its sort allows
pub record Proper (h : Head) (e : Entry) : Type 0 where
  pub location : e.location < h.locations
  pub letter : e.letter < h.letters
  pub formula : (f : Formula) × Spells f e.tokens
  pub allowed : AllByRecursion (λ t. allowed h.sort h.locations t ≡ true) e.tokens

abbrev pub tokens_in : List Entry → ℕ
tokens_in [] = 0
tokens_in (e ∷ es) = length e.tokens + tokens_in es

-- the table with each entry's tokens put at its location and letter
abbrev pub laid : ℕ → List (List Token) → List Entry → List (List Token)
laid letters table [] = table
laid letters table (e ∷ es) = laid letters (slice_set table (e.location * letters + e.letter) e.tokens) es

-- block k states its check, its kind and its number
pub record Sealed (k : ℕ) (b : List ℕ) : Type 0 where
  pub check : check_stated b ≡ check_of b
  pub kind : byte b 0 ≡ kind k
  pub number : byte b 1 ≡ k

pub record InRange (h : Head) : Type 0 where
  pub some_location : 0 < h.locations
  pub locations : h.locations ≤ 32
  pub some_letter : 0 < h.letters
  pub letters : h.letters ≤ 8
  pub initial : h.initial < h.locations

pub record Denotes (asked : Asked) (xs : List ℕ) (c : Content) : Type 0 where
  -- whole blocks, 1 to 64, each sealed
  pub long : length xs ≡ blocks xs * 512
  pub some : 0 < blocks xs
  pub few : blocks xs ≤ 64
  pub sealed : (k : ℕ) → k < blocks xs → Sealed k (block xs k)
  -- block 0 is the head, of a sort that was asked for
  pub says : c.head ≡ head (block xs 0)
  pub sort : sort_of (byte (block xs 0) 2) ≡ Some c.head.sort
  pub taken : takes asked c.head.sort ≡ true
  pub fields : InRange c.head
  -- the other blocks hold entries, which rise, with at most 4,096 tokens in all
  pub entries : List Entry
  pub filled : Fills xs 1 (blocks xs - 1) entries
  pub rising : Rising entries
  pub proper : AllByRecursion (Proper c.head) entries
  pub tokens : tokens_in entries ≤ 4096
  pub formulas : c.formulas ≡ laid c.head.letters (replicate (c.head.locations * c.head.letters) []) entries

-- a byte string denotes exactly one content and has no fault, or denotes none and has exactly one first fault
abbrev pub OneVerdict : Asked → List ℕ → Type 0
OneVerdict asked xs =
    ((c : Content) × Denotes asked xs c × ((d : Content) → Denotes asked xs d → d ≡ c) × ((r : Refusal) → FirstFault asked xs r → ⊥))
    ⊎ ((r : Refusal) × FirstFault asked xs r × ((s : Refusal) → FirstFault asked xs s → s ≡ r) × ((c : Content) → Denotes asked xs c → ⊥))
