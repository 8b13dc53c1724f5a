-- Positions of a walk that turns back to one of them, and how many steps each is before that one. Assumes nothing.
use Rattle.std.proofs.Common.{◌≡◌, ℕ, suc, ◌+◌, ◌-◌, ◌<◌, ◌≤◌, cond, eqb, leb, arith}
use Rattle.std.proofs.lemmas.Bool.Decides.{nat_tests}

-- where to, and after how many steps from there
pub record Round : Type 0 where
  pub turn : ℕ
  pub round : ℕ
  pub some : 1 ≤ round

-- positions are below
abbrev pub end : Round → ℕ
end c = c.turn + c.round

abbrev pub after : Round → ℕ → ℕ
after c p = cond (eqb (suc p) (end c)) c.turn (suc p)

-- the steps before the turn
abbrev pub left : Round → ℕ → ℕ
left c p = cond (leb p c.turn) (c.turn - p) (end c - p)

module _ (c : Round) where
  pub after_below : (p : ℕ) → p < end c → after c p < end c
  after_below p l = let s = c.some in grind (arith, nat_tests)

  pub left_falls : (p : ℕ) → p < end c → (p ≡ c.turn → ⊥) → left c (after c p) < left c p
  left_falls p l ne = let s = c.some in grind (arith, nat_tests)

  pub left_past : (after c c.turn ≡ c.turn → ⊥) → left c (after c c.turn) < c.round
  left_past ne = let s = c.some in grind (arith, nat_tests)
