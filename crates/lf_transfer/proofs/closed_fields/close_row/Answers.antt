use Rattle.std.proofs.Common.{Some, ap, arith, length, refl, subst, sym, ◌+◌, ◌∙◌}
use Rattle.lf_base.specs.CloseResult.{leads_into}
use Rattle.lf_barrier.proofs.Surveys.SurveyRows.{stored_keys}
use Rattle.lf_graph.specs.StoredRows.{fields_at}
use Rattle.lf_transfer.specs.Closing.{come_to}
use Rattle.lf_transfer.proofs.Closings.LocalRows.{local_there, none_into}
use Rattle.lf_transfer.proofs.Closings.ShutWalks.{ShutWalk, field_is_there, same_width, shut_all, shut_not_over, shut_walk_begins, shut_walk_on}
use Rattle.lf_transfer.proofs.closed_fields.close_row.Goals as goal

pub width-width-requires : goal.width-width-requires
width-width-requires g c =
    let h = c.requires.closing in
    let s = h.0 in let at = h.1.0 in let r = h.1.1.0 in let before = h.1.1.1.0 in let slots = h.1.1.1.1.0 in let first = h.1.1.1.1.1.0 in let local = h.1.1.1.1.1.1 in
    record { there = local_there s at r c.args.within.now.keys before (g.S.Store.rows c.args.store.now) c.args.regions.now slots c.args.names.now first c.args.p local }

pub loop-turn-init : goal.loop-turn-init
loop-turn-init g c = record {
  closing = λ s at r before slots first local. first;
  walk = λ s at r before slots first local. shut_walk_begins (leads_into s r) (fields_at (g.S.Store.rows c.args.store.now) c.args.p);
  width = refl;
  others = λ q other. refl;
  room = λ w. omega arith;
  order = λ w. refl;
}

pub field_after-requires : goal.field_after-requires
field_after-requires g c =
    let h = c.requires.closing in
    let s = h.0 in let at = h.1.0 in let r = h.1.1.0 in let before = h.1.1.1.0 in let slots = h.1.1.1.1.0 in let first = h.1.1.1.1.1.0 in let local = h.1.1.1.1.1.1 in
    record { there = local_there s at r c.args.within.now.keys before (g.S.Store.rows c.loop-turn.store) c.loop-turn.regions slots c.loop-turn.names (c.loop-turn.invariant.closing s at r before slots first local) c.args.p local }

pub unreachable-requires : goal.unreachable-requires
unreachable-requires g c =
    let h = c.requires.closing in
    let s = h.0 in let at = h.1.0 in let r = h.1.1.0 in let before = h.1.1.1.0 in let slots = h.1.1.1.1.0 in let first = h.1.1.1.1.1.0 in let local = h.1.1.1.1.1.1 in
    let rows = g.S.Store.rows c.loop-turn.store in
    let now = c.loop-turn.invariant.closing s at r before slots first local in
    shut_not_over (leads_into s r) (fields_at rows c.args.p) c.loop-turn.last c.loop-turn._turn (c.loop-turn.invariant.walk s at r before slots first local)
    (stored_keys rows c.loop-turn.regions (come_to s rows slots) now.domain c.args.p)
    (sym c.in_default.is ∙ c.field_after.ensures.field) (omega (arith, c.loop-turn-test.true, c.width-width.ensures.width, c.loop-turn.invariant.width))

pub close_field-requires-clause-field : goal.close_field-requires-clause-field
close_field-requires-clause-field g c κs within =
    let h = c.requires.closing in
    let s = h.0 in let at = h.1.0 in let r = h.1.1.0 in let before = h.1.1.1.0 in let slots = h.1.1.1.1.0 in let first = h.1.1.1.1.1.0 in let local = h.1.1.1.1.1.1 in
    let rows = g.S.Store.rows c.loop-turn.store in
    let now = c.loop-turn.invariant.closing s at r before slots first local in
    field_is_there (leads_into s r) (fields_at rows c.args.p) c.loop-turn.last c.loop-turn._turn (c.loop-turn.invariant.walk s at r before slots first local)
    (stored_keys rows c.loop-turn.regions (come_to s rows slots) now.domain c.args.p) c.in-Some.key c.in-Some.v (sym c.in-Some.is ∙ c.field_after.ensures.field)

pub close_field-requires-clause-closing : goal.close_field-requires-clause-closing
close_field-requires-clause-closing g c κs within =
    let h = c.requires.closing in
    let s = h.0 in let at = h.1.0 in let r = h.1.1.0 in let before = h.1.1.1.0 in let slots = h.1.1.1.1.0 in let first = h.1.1.1.1.1.0 in let local = h.1.1.1.1.1.1 in
    (s, (at, (r, (before, (slots, (c.loop-turn.invariant.closing s at r before slots first local, local))))))

pub loop-turn-preserved : goal.loop-turn-preserved
loop-turn-preserved g c =
    let h = c.requires.closing in
    let s = h.0 in let at = h.1.0 in let r = h.1.1.0 in let before = h.1.1.1.0 in let slots = h.1.1.1.1.0 in let first = h.1.1.1.1.1.0 in let local = h.1.1.1.1.1.1 in
    let rows = g.S.Store.rows c.loop-turn.store in
    let next = g.S.Store.rows c.close_field.new.store in
    let found = sym c.in-Some.is ∙ c.field_after.ensures.field in
    let now = c.loop-turn.invariant.closing s at r before slots first local in
    record {
      closing = λ s at r before slots first local. c.close_field.ensures.closing s at r before slots (c.loop-turn.invariant.closing s at r before slots first local) local;
      walk = λ s at r before slots first local.
          let now = c.loop-turn.invariant.closing s at r before slots first local in
          subst (λ fs. ShutWalk (leads_into s r) fs (Some c.in-Some.key) (c.loop-turn._turn + 1)) (sym (c.close_field.ensures.shut s at r before slots now local))
          (shut_walk_on (leads_into s r) (fields_at rows c.args.p) c.loop-turn.last c.loop-turn._turn (c.loop-turn.invariant.walk s at r before slots first local)
          (stored_keys rows c.loop-turn.regions (come_to s rows slots) now.domain c.args.p) c.in-Some.key c.in-Some.v found (none_into s r));
      width =
          ap length (c.close_field.ensures.shut s at r before slots now local)
          ∙ same_width (leads_into s r) (fields_at rows c.args.p) c.loop-turn.last c.loop-turn._turn (c.loop-turn.invariant.walk s at r before slots first local)
          (stored_keys rows c.loop-turn.regions (come_to s rows slots) now.domain c.args.p) c.in-Some.key c.in-Some.v found
          ∙ c.loop-turn.invariant.width;
      others = λ q other. c.close_field.ensures.others q other ∙ c.loop-turn.invariant.others q other;
      room = λ w. omega (arith, c.close_field.ensures.room w, c.loop-turn.invariant.room w);
      order = λ w. c.close_field.ensures.order w ∙ c.loop-turn.invariant.order w;
    }

pub returns-clause-closing : goal.returns-clause-closing
returns-clause-closing g c = c.loop-turn.invariant.closing

pub returns-clause-shut : goal.returns-clause-shut
returns-clause-shut g c s at r before slots first local =
    let rows = g.S.Store.rows c.loop-turn.store in
    let now = c.loop-turn.invariant.closing s at r before slots first local in
    shut_all (leads_into s r) (fields_at rows c.args.p) c.loop-turn.last c.loop-turn._turn (c.loop-turn.invariant.walk s at r before slots first local)
    (stored_keys rows c.loop-turn.regions (come_to s rows slots) now.domain c.args.p)
    (omega (arith, c.loop-turn-test.false, c.width-width.ensures.width, c.loop-turn.invariant.width))

pub returns-clause-others : goal.returns-clause-others
returns-clause-others g c = c.loop-turn.invariant.others

pub returns-clause-room : goal.returns-clause-room
returns-clause-room g c = c.loop-turn.invariant.room

pub returns-clause-order : goal.returns-clause-order
returns-clause-order g c = c.loop-turn.invariant.order
