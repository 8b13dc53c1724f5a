use Rattle.std.proofs.Common.{◌≡◌, ◌≤◌, length, take, Ok, sym, ap, ◌∙◌, subst, arith, length-take}
use Rattle.std.proofs.lemmas.List.{drop_all}
use Rattle.inspect.specs.Entries.{begins, nothing}
use Rattle.inspect.specs.Items.{EntryAt}
use Rattle.inspect.proofs.Passing.{from, entries_next, entries_end, entries_past}
use Rattle.inspect.proofs.entries.EntriesIterator.next.Goals as goal

pub returns-in-Ok-Some : goal.returns-in-Ok-Some
returns-in-Ok-Some c =
    let s = c.self.inside in
    let found = subst (λ o. EntryAt (from s.block.now s.place.byte) s.place (Ok o)) c.in-Ok-Some.field-0-is c.in-Ok-Some.ensures in
    let steps = sym c.self.view_is ∙ entries_next s.place.block s.place.byte s.block.now _ _ _ found.0 in
    record { steps = rw found.2 steps; goes = record { on = λ _. (tt, tt, omega (arith, ap length steps)); keeps = tt; rests = λ _. tt } }

pub returns-in-Ok-None : goal.returns-in-Ok-None
returns-in-Ok-None c =
    let none = subst (λ o. EntryAt (from c.self.inside.block.now c.self.inside.place.byte) c.self.inside.place (Ok o)) c.in-Ok-None.field-0-is c.in-Ok-None.ensures in
    let end = sym c.self.view_is ∙ entries_end c.self.inside.place.block c.self.inside.place.byte _ none in
    record { steps = (end, end); goes = record { on = λ _. tt; keeps = tt; rests = λ _. tt } }

pub returns-in-Err : goal.returns-in-Err
returns-in-Err c =
    let xs = c.self.inside.block.now in
    let out = c.in-Err.ensures in
    let steps = sym c.self.view_is ∙ entries_past c.self.inside.place.block c.self.inside.place.byte (from xs c.self.inside.place.byte) out.0.0 out.0.1 in
    let past : length (take 510 xs) ≤ 510 = omega (arith, length-take 510 xs) in
    let none : begins (from xs 510) ≡ nothing = ap begins (drop_all 510 (take 510 xs) past) in
    let end = entries_end c.self.inside.place.block 510 (from xs 510) none in
    record {
      steps = ((c.self.inside.place, out.0.0, steps, out.1), end);
      goes = record { on = λ _. (tt, tt, omega (arith, ap length steps, ap length end)); keeps = tt; rests = λ _. tt };
    }
