-- What a sweep brings, and the record that it turns, are the step of the position. Assumes nothing.
use Rattle.std.proofs.Common.{◌≡◌, ℕ, ◌≤◌, false, cond, List, length, take, Some, sym, refl, ap, ◌∙◌, subst}
use Rattle.std.proofs.lemmas.List.{length-take-le}
use Rattle.std.proofs.lemmas.Bool.{cond_both}
use Rattle.graph.specs.Adding.{covered, all_covered, Table}
use Rattle.graph.specs.Meaning.{Meaning}
use Rattle.inquiry.specs.declared.brought.Brought.{Brought}
use Rattle.inquiry.specs.declared.brought.Brought.TheVariants.{Lost, Settled, Shrunk}
use Rattle.inquiry.specs.Bring.{verdict, sweeping, Brings}

module _ {S : Type 0} (m : Meaning S) (n : ℕ) (i : ℕ) (outer inner outer' inner' : List S) where
  brings_verdict : (held kept : List S) (t : Table S) → sweeping m n held kept ≡ Some t → t.changed ≡ false → take i outer' ≡ kept → inner' ≡ inner → Brings m n held kept i outer inner outer' inner' (verdict m held kept)
  brings_verdict held kept t swept_is still copied same =
      cond_both (covered m.below m.start kept) (cond (all_covered m.below held kept) Settled Shrunk) Lost (λ v. v ≡ verdict m held kept → Brings m n held kept i outer inner outer' inner' v)
      (λ e. cond_both (all_covered m.below held kept) Settled Shrunk (λ v. v ≡ verdict m held kept → Brings m n held kept i outer inner outer' inner' v)
      (λ f z. record { table = t; swept = swept_is; still = still; copied = copied; same = same; ends = z })
      (λ f z. record { table = t; swept = swept_is; still = still; copied = copied; same = same; ends = z }))
      (λ e z. record { table = t; swept = swept_is; still = still; copied = copied; same = same; ends = z })
      refl

  pub ended_brings : (o o' i' : ℕ) (t : Table S) (b : Brought) → o' ≡ o → i' ≡ i → i ≤ length inner → Some t ≡ sweeping m n (take o' outer) (take i' inner) → t.changed ≡ false → take (length (take i' inner)) outer' ≡ take i' inner → inner' ≡ inner → b ≡ verdict m (take o' outer) (take i' inner) → Brings m n (take o outer) (take i inner) i outer inner outer' inner' b
  ended_brings o o' i' t b os is le swept_is still copied same ends =
      let os' : take o' outer ≡ take o outer = ap (λ k. take k outer) os in
      let is' : take i' inner ≡ take i inner = ap (λ k. take k inner) is in
      let all : length (take i' inner) ≡ i = ap length is' ∙ length-take-le i inner le in
      subst (Brings m n (take o outer) (take i inner) i outer inner outer' inner') (sym (ends ∙ ap (λ l. verdict m l (take i' inner)) os' ∙ ap (verdict m (take o outer)) is'))
      (brings_verdict (take o outer) (take i inner) t (sym (swept_is ∙ ap (λ l. sweeping m n l (take i' inner)) os' ∙ ap (sweeping m n (take o outer)) is')) still (ap (λ k. take k outer') (sym all) ∙ copied ∙ is') same)
