-- What the checks of an entry's tokens say: each byte stands for a token that is allowed, and the tokens spell a formula. Assumes nothing.
use Rattle.std.proofs.Common.{◌≡◌, ℕ, suc, ◌≤◌, true, eqb, ltb, List, [], ◌∷◌, map, Some, None, Option, unwrap_or, sym, refl, ap, ap₂, arith}
use Rattle.std.specs.List.{AllByRecursion}
use Rattle.std.proofs.lemmas.Bool.{false≢true, ltb-true, lt-ltb, eqb-true, and_parts, and_from, cond-true, cond_both}
use Rattle.formula.specs.declared.token.Token.{Token}
use Rattle.formula.specs.declared.token.Token.TheVariants.{Location, True, False, And, Or}
use Rattle.formula.specs.Tokens.{code, token}
use Rattle.formula.specs.Shape.{room, moved, shaped}
use Rattle.inspect.specs.declared.head.Sort.{Sort}
use Rattle.inspect.specs.declared.head.Head.{Head}
use Rattle.inspect.specs.Checks.{allowed, known, formula_checks}
use Rattle.inspect.specs.Contents.{read}
use Rattle.inspect.proofs.FirstOf.{Pass}

abbrev Coded : ℕ → Option Token → Type 0
Coded b None = Unit {0}
Coded b (Some t) = code t ≡ b

coded : (b : ℕ) → Coded b (token b)
coded b =
    cond_both (ltb b 32) (Some (Location b)) _ (Coded b) (λ e. refl) (λ _.
    cond_both (eqb b 0x40) (Some True) _ (Coded b) (λ e. sym (eqb-true b 0x40 e)) (λ _.
    cond_both (eqb b 0x41) (Some False) _ (Coded b) (λ e. sym (eqb-true b 0x41 e)) (λ _.
    cond_both (eqb b 0x42) (Some And) _ (Coded b) (λ e. sym (eqb-true b 0x42 e)) (λ _.
    cond_both (eqb b 0x43) (Some Or) None (Coded b) (λ e. sym (eqb-true b 0x43 e)) (λ _. tt)))))

known_read : (s : Sort) (n b : ℕ) → known s n (token b) ≡ true → (token b ≡ Some (read b)) × (code (read b) ≡ b) × (allowed s n (read b) ≡ true)
known_read s n b h = go (token b) (coded b) h
  where
    go : (o : Option Token) → Coded b o → known s n o ≡ true → (o ≡ Some (unwrap_or o False)) × (code (unwrap_or o False) ≡ b) × (allowed s n (unwrap_or o False) ≡ true)
    go None c h = absurd (false≢true h)
    go (Some t) c h = (refl, c, h)

pub token_code : (s : Sort) (n : ℕ) (t : Token) → n ≤ 32 → allowed s n t ≡ true → token (code t) ≡ Some t
token_code s n (Location l) few h = cond-true _ (Some (Location l)) _ (lt-ltb l 32 (omega (arith, ltb-true l n h)))
token_code s n True few h = refl
token_code s n False few h = refl
token_code s n And few h = refl
token_code s n Or few h = refl

module _ (h : Head) where
  abbrev pub Allowed : List Token → Type 0
  Allowed ts = AllByRecursion (λ t. allowed h.sort h.locations t ≡ true) ts

  -- the bytes bs stand for tokens that are allowed and that one value is left of, where w values wait
  pub record Read (w : ℕ) (bs : List ℕ) : Type 0 where
    pub coded : map code (map read bs) ≡ bs
    pub allowed : Allowed (map read bs)
    pub shaped : shaped w (map read bs) ≡ true

  pub pass_read : (k first at w : ℕ) (bs : List ℕ) → Pass (formula_checks h k first at w bs) → Read w bs
  pass_read k first at w [] p = record { coded = refl; allowed = tt; shaped = p.0 }
  pass_read k first at w (b ∷ bs) p =
      let is = known_read h.sort h.locations b p.0 in
      let space : room (read b) w ≡ true = rw is.0 at p.1.0 in
      let next : Pass (formula_checks h k first (suc at) (moved (read b) w) bs) = rw is.0 at p.1.1 in
      let rest = pass_read k first (suc at) (moved (read b) w) bs next in
      record { coded = ap₂ (λ x xs. x ∷ xs) is.1 rest.coded; allowed = (is.2, rest.allowed); shaped = and_from _ _ space rest.shaped }

  pub shaped_pass : h.locations ≤ 32 → (k first at w : ℕ) (ts : List Token) → Allowed ts → shaped w ts ≡ true → Pass (formula_checks h k first at w (map code ts))
  shaped_pass few k first at w [] all s = (s, tt)
  shaped_pass few k first at w (t ∷ ts) all s =
      let parts = and_parts _ _ s in
      let is = token_code h.sort h.locations t few all.0 in
      rw is (all.0, (parts.0, shaped_pass few k first (suc at) (moved t w) ts all.1 parts.1))

  pub read_code : h.locations ≤ 32 → (ts : List Token) → Allowed ts → map read (map code ts) ≡ ts
  read_code few [] all = refl
  read_code few (t ∷ ts) all =
      ap₂ (λ x xs. x ∷ xs) (ap (λ o. unwrap_or o False) (token_code h.sort h.locations t few all.0)) (read_code few ts all.1)
