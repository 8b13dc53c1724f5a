-- How runs come to an end, and that what is exhausted and not widened was pursued. Assumes nothing.
use Rattle.std.proofs.Common.{◌≡◌, ℕ, ◌-◌, ◌<◌, ◌≤◌, cond, ◌⊎◌, List, None, sym, ap, ◌∙◌, subst, inl, inr, arith}
use Rattle.std.proofs.lemmas.Bool.{cond-true, cond_both}
use Rattle.graph.specs.Meaning.{Meaning, Lawful}
use Rattle.inquiry.specs.declared.report.Report.{Report}
use Rattle.inquiry.specs.declared.standing.Standing.TheVariants.{Running, Full}
use Rattle.inquiry.specs.Calls.{open_refusal, Ran}
use Rattle.inquiry.specs.Position.{Position}
use Rattle.inquiry.specs.Record.{position}
use Rattle.inquiry.specs.Standing.{running}
use Rattle.inquiry.proofs.Courses.{promised}
use Rattle.tables.proofs.Runs.{run_keeps}
use Rattle.pursuit.specs.Pursued.{Exhausted, Doubled, Pursued}

-- a sweep was counted, or nothing runs
pub run_falls : {S : Type 0} (m : Meaning S) (p q : Position S) → Ran m 1000 p q → p.standing ≡ Running → p.count < p.limit → cond (running q.standing) (q.limit - q.count) 0 < cond (running p.standing) (p.limit - p.count) 0
run_falls m p q r s lt = subst (λ n. cond (running q.standing) (q.limit - q.count) 0 < n) (sym (cond-true (running p.standing) (p.limit - p.count) 0 (ap running s))) (go (r.counts (omega arith)))
  where
    go : (p.count < q.count) ⊎ (q.standing ≡ Full) → cond (running q.standing) (q.limit - q.count) 0 < p.limit - p.count
    go (inl more) = cond_both (running q.standing) (q.limit - q.count) 0 (λ n. n < p.limit - p.count) (λ e. omega (arith, (run_keeps m 1000 p q r).1)) (λ e. omega arith)
    go (inr full) = subst (λ v. cond (running v) (q.limit - q.count) 0 < p.limit - p.count) (sym full) (omega arith)

pub doubled_most : (n : ℕ) → Doubled n → 4096 ≤ n → n ≡ 4096
doubled_most n doubled le = grind arith

-- what was exhausted and is not to be widened was pursued
pub pursued : {S : Type 0} (m : Meaning S) → Lawful m → (from r : Report) (outer inner : List S) → Exhausted m from r outer inner → open_refusal 512 512 512 100000 m.tops ≡ None → from.limit ≡ 100000 → Doubled from.places → (r.standing ≡ Full → 4096 ≤ r.places) → Pursued m r
pursued m l from r outer inner x opens limit places widest =
    let doubled : Doubled r.places = subst Doubled (sym x.places_are) places in
    record {
      opens = opens;
      outer = outer;
      inner = inner;
      course = x.course;
      promise = promised m l (position r outer inner) x.course;
      limit_is = x.limit_is ∙ limit;
      ends = x.ends;
      places_are = doubled;
      widest = λ full. doubled_most r.places doubled (widest full);
    }
