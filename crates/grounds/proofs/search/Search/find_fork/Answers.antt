use Rattle.std.proofs.Common.{◌+◌, ◌*◌, ℕ, List, get_or, ◌∙◌, sym, refl, ap, subst, arith, rules}
use Rattle.std.proofs.lemmas.List.{get_or-replicate}
use Rattle.grounds.specs.Checking.{said}
use Rattle.grounds.specs.Neighbours.{finds_in_sets}
use Rattle.grounds.specs.Notes.{number, Notes, Working}
use Rattle.grounds.specs.Searching.{Searched}
use Rattle.grounds.proofs.Numbers.{number_below}
use Rattle.grounds.proofs.Steps.{begun, ended}
use Rattle.grounds.proofs.AtWork.{no_clash, done}
use Rattle.grounds.proofs.Turns.{fewer, room, skipped_self, skipped_seen, planted_at, sized_as, shallow_at, met_at, forks_at}
use Rattle.grounds.proofs.search.Search.find_fork.Goals as goal

pub search-init : goal.search-init
search-init c =
    let sets = c.args.self.now.sets in let f = finds_in_sets sets in let h = fewer f.graves sets.some in
    let b = c.requires.fresh in record {
      none = refl;
      idle = sym b.tail_is;
      room = (let z = b.tail_is in let y = sets.some in omega arith);
      same = search rules;
      notes = subst (Notes f 0 c.args.self.now.depths.now c.args.self.now.parents.now c.args.self.now.queue.now 0) (sym b.tail_is)
          (begun f c.args.self.now.depths.now c.args.self.now.parents.now c.args.self.now.queue.now
          (λ p h. ap (λ (l : List ℕ). get_or l (number f.graves p) 0) b.depths_are ∙ get_or-replicate (f.graves * f.graves) (number f.graves p) 0 0 (number_below f p h)));
    }

pub search-preserved-then-seed-n : goal.search-preserved-then-seed-n
search-preserved-then-seed-n c =
    let sets = c.args.self.now.sets in let f = finds_in_sets sets in let k = c.search.invariant in record {
      none = k.none;
      idle = k.idle;
      room = k.room;
      same = k.same;
      notes = elim c.then-seed-n.branch [
        | goal.then-seed-n-via-then-seed-n w ↦ skipped_self f sets.some k.notes w.if-seed-n.true
        | goal.then-seed-n-via-else-seed-n+then-self-seed-ne0 w ↦ skipped_seen f sets.some k.notes (let h = w.if-self-seed-ne0.true in omega arith)
      ];
    }

pub loop-head-init : goal.loop-head-init
loop-head-init c =
    let sets = c.args.self.now.sets in let f = finds_in_sets sets in let k = c.search.invariant in
    let notes : Notes f (c.search.seed + 1) c.enter.new.self.depths.now c.enter.new.self.parents.now c.enter.new.self.queue.now c.search.head c.enter.new.self.tail =
    planted_at f sets.some (sized_as c.search.self k.same.sets) k.notes c.search-test.true c.if-seed-n.false k.idle c.if-self-seed-ne0.false c.enter.ensures.entered in record {
      none = k.none;
      room = room f sets.some notes;
      same = search rules;
      notes = notes;
    }

pub at_work-work-requires : goal.at_work-work-requires
at_work-work-requires c = let o = c.loop-head.invariant.notes.queued c.loop-head.head c.loop-head-test.true in (o.0, o.1.0, o.2)

pub loop-place-preserved-in_default : goal.loop-place-preserved-in_default
loop-place-preserved-in_default c = let k = c.loop-place.invariant in record { none = k.none; room = k.room; same = k.same; working = no_clash k.working c.in_default.ensures }

pub meet-requires-clause-shallow : goal.meet-requires-clause-shallow
meet-requires-clause-shallow c =
    let h = c.in-Some.ensures in shallow_at c.loop-place.self c.loop-place.invariant.working c.at_work-work.result.cell c.in-Some.other h.0 c.at_work-work.ensures.0.numbers h.1

pub loop-place-preserved : goal.loop-place-preserved
loop-place-preserved c =
    let h = c.in-Some.ensures in let k = c.loop-place.invariant in let t = c.meet.new.self in
    let working : Working (finds_in_sets c.args.self.now.sets) (c.search.seed + 1) t.depths.now t.parents.now t.queue.now c.loop-head.head t.tail (said c.at_work-work.result.pair) (c.loop-place.place + 1) =
    met_at c.loop-place.self k.working c.at_work-work.result.cell c.in-Some.other h.0 c.at_work-work.ensures.0.numbers h.1
    (sized_as c.loop-place.self k.same.sets) k.room h.2 c.in_default-meet.ensures.met in record {
      none = k.none;
      room = room (finds_in_sets c.args.self.now.sets) c.args.self.now.sets.some working.notes;
      same = search rules;
      working = working;
    }

pub returns-in-Some-meet-clause-found : goal.returns-in-Some-meet-clause-found
returns-in-Some-meet-clause-found c =
    let h = c.in-Some.ensures in
    forks_at c.loop-place.self c.loop-place.invariant.working c.at_work-work.result.cell c.in-Some.other h.0 c.at_work-work.ensures.0.numbers h.1
    c.in-Some-meet.fork c.in-Some-meet.ensures.met

pub loop-head-preserved : goal.loop-head-preserved
loop-head-preserved c =
    let f = finds_in_sets c.args.self.now.sets in let k = c.loop-place.invariant in let s = c.loop-place.self in record {
      none = k.none;
      room = k.room;
      same = k.same;
      notes = done (subst
          (Working f (c.search.seed + 1) s.depths.now s.parents.now s.queue.now c.loop-head.head s.tail (said c.at_work-work.result.pair))
          (omega arith) k.working);
    }

pub returns-after-search-clause-found : goal.returns-after-search-clause-found
returns-after-search-clause-found c =
    let f = finds_in_sets c.args.self.now.sets in let k = c.search.invariant in
    subst (Searched f c.search.self) (sym k.none) (ended f k.notes (omega arith) k.idle)
