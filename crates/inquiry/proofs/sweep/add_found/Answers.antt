-- One state found more, or no place.
use Rattle.std.proofs.Common.{◌≡◌, ◌+◌, length, Some, None, sym, ap, ◌∙◌, arith}
use Rattle.graph.specs.Adding.{filled}
use Rattle.graph.specs.Candidates.{found, by_number}
use Rattle.inquiry.specs.Pass.{Decided}
use Rattle.antichain.specs.Fill.{table_of}
use Rattle.inquiry.proofs.Steps.{in_slot, in_slots, in_states, put_in, found_put, found_fails, number_more, number_full, number_all, state_more, state_full, state_all}
use Rattle.inquiry.proofs.sweep.add_found.Goals as goal
use Rattle.inquiry.proofs.sweep.add_found.Goals.{in-Some+then-pass+in_ok-fill, in-Some+else-pass, in_default}

pub shape_of-work-in_err-fill : goal.shape_of-work-in_err-fill
shape_of-work-in_err-fill g c = omega arith

pub returns-in_err-fill-clause-fills : goal.returns-in_err-fill-clause-fills
returns-in_err-fill-clause-fills g c = λ test decided.
    let m = g.G.Graph.means c.args.graph.now in
    let n = length c.args.work.now in
    let x = c.loop-letter.letter in
    let t = table_of c.args.fill c.args.work.now in
    let ux = table_of c.loop-letter.fill c.loop-letter.work in
    let ub = table_of c.loop-b.fill c.loop-b.work in
    let u = table_of c.loop-i.fill c.loop-i.work in
    let passes = sym (decided c.in-Some.c c.pass.result c.pass.ensures) ∙ c.if-pass.true in
    let full = put_in m.below n (length c.loop-i.work) c.in-Some.c u None c.loop-i.invariant.long c.in_err-fill.ensures.put in
    let none = found_put m.below n test c.in-Some.c u None passes full ∙ ap (λ o. filled m.below n (found test o) u) c.in-Some.ensures in
    let slots = number_full m.below n (in_slot m test x c.b-item.result) ub u c.loop-i.i m.slots (c.loop-i.invariant.so_far test decided) none (omega arith) in
    let states = state_full m.below n (in_slots m test x) c.args.from.now ux ub c.loop-b.b-index (c.loop-b.invariant.left test decided) c.b-item.result c.loop-b-test.true c.b-item.is slots in
    rw c.from_residual.ensures (number_full m.below n (λ x. in_states m test x c.args.from.now) t ux x m.letters (c.loop-letter.invariant.so_far test decided) states (omega arith))

pub loop-i-preserved : goal.loop-i-preserved
loop-i-preserved g c =
    let m = g.G.Graph.means c.args.graph.now in
    let n = length c.args.work.now in
    let x = c.loop-letter.letter in
    let b = c.b-item.result in
    let ub = table_of c.loop-b.fill c.loop-b.work in
    let u = table_of c.loop-i.fill c.loop-i.work in
    let next : (test : _) → Decided (goal.F-post g c.args.pass) test → (v : _) → Some v ≡ filled m.below n (in_slot m test x b c.loop-i.i) u → filled m.below n (by_number (in_slot m test x b) (c.loop-i.i + 1)) ub ≡ Some v =
    λ test decided v. number_more m.below n (in_slot m test x b) ub u (Some v) c.loop-i.i (c.loop-i.invariant.so_far test decided) in
    elim c.match-slot.branch [
      | in-Some+then-pass+in_ok-fill w ↦
          let added = table_of w.in_ok-fill.fill w.add.new.table in
          rw (w.work-is, w.fill-is) (record {
            so_far = λ test decided. next test decided added (found_put m.below n test w.in-Some.c u (Some added) (sym (decided w.in-Some.c w.pass.result w.pass.ensures) ∙ w.if-pass.true) (put_in m.below n (length c.loop-i.work) w.in-Some.c u (Some added) c.loop-i.invariant.long w.in_ok-fill.ensures.put) ∙ ap (λ o. filled m.below n (found test o) u) w.in-Some.ensures);
            long = omega arith;
            fits = w.in_ok-fill.ensures.fits;
          })
      | in-Some+else-pass w ↦ rw (w.work-is, w.fill-is) (record {
        so_far = λ test decided. next test decided u (found_fails m.below n test w.in-Some.c u (sym (decided w.in-Some.c w.pass.result w.pass.ensures) ∙ w.if-pass.false) ∙ ap (λ o. filled m.below n (found test o) u) w.in-Some.ensures);
        long = c.loop-i.invariant.long;
        fits = c.loop-i.invariant.fits;
      })
      | in_default w ↦ rw (w.work-is, w.fill-is) (record {
        so_far = λ test decided. next test decided u (ap (λ o. filled m.below n (found test o) u) w.in_default.ensures);
        long = c.loop-i.invariant.long;
        fits = c.loop-i.invariant.fits;
      })
    ]

pub loop-b-preserved : goal.loop-b-preserved
loop-b-preserved g c =
    let m = g.G.Graph.means c.args.graph.now in
    let n = length c.args.work.now in
    let x = c.loop-letter.letter in
    let ux = table_of c.loop-letter.fill c.loop-letter.work in
    let ub = table_of c.loop-b.fill c.loop-b.work in
    let u = table_of c.loop-i.fill c.loop-i.work in
    record {
      left = λ test decided. state_more m.below n (in_slots m test x) c.args.from.now ux ub c.loop-b.b-index (c.loop-b.invariant.left test decided) c.b-item.result c.loop-b-test.true c.b-item.is u (number_all m.below n (in_slot m test x c.b-item.result) ub u c.loop-i.i m.slots (c.loop-i.invariant.so_far test decided) (omega arith) (omega arith));
      long = c.loop-i.invariant.long;
      fits = c.loop-i.invariant.fits;
    }

pub loop-letter-preserved : goal.loop-letter-preserved
loop-letter-preserved g c =
    let m = g.G.Graph.means c.args.graph.now in
    let n = length c.args.work.now in
    let x = c.loop-letter.letter in
    let t = table_of c.args.fill c.args.work.now in
    let ux = table_of c.loop-letter.fill c.loop-letter.work in
    let ub = table_of c.loop-b.fill c.loop-b.work in
    record {
      so_far = λ test decided. number_more m.below n (λ x. in_states m test x c.args.from.now) t ux (Some ub) x (c.loop-letter.invariant.so_far test decided) (state_all m.below n (in_slots m test x) c.args.from.now ux ub c.loop-b.b-index (c.loop-b.invariant.left test decided) c.loop-b-test.false);
      long = c.loop-b.invariant.long;
      fits = c.loop-b.invariant.fits;
    }

pub returns-clause-fills : goal.returns-clause-fills
returns-clause-fills g c = λ test decided.
    let m = g.G.Graph.means c.args.graph.now in
    number_all m.below (length c.args.work.now) (λ x. in_states m test x c.args.from.now) (table_of c.args.fill c.args.work.now) (table_of c.loop-letter.fill c.loop-letter.work) c.loop-letter.letter m.letters (c.loop-letter.invariant.so_far test decided) (omega arith) (omega arith)
