use Rattle.std.proofs.Common.{ap, cond, eqb, not, subst, sym, ◌&&◌, ◌∙◌, ◌∷◌, []}
use Rattle.lf_regions.specs.Regions.{borrowed_of, has_region, owned_of}
use Rattle.lf_base.specs.FreezeResult.{freeze_result}
use Rattle.lf_transfer.specs.Freezing.{TurnsTo}
use Rattle.lf_transfer.proofs.Freezes.LostRegions.{bare_is, not_bare, not_less, still_there, turned_gone, turned_stay}
use Rattle.lf_transfer.proofs.losing.lose_from.Goals as goal

pub returns-then-has-clause-turned : goal.returns-then-has-clause-turned
returns-then-has-clause-turned g c table s v m =
    turned_gone (g.S.Store.rows c.args.store.now) table s v c.args.taken.now.keys c.args.r c.args.regions.now m (sym c.has.ensures ∙ c.if-has.true) c.end_region.new.regions
    c.end_region.ensures.names c.end_region.ensures.numbers c.end_region.ensures.flags

pub returns-then-has-clause-named : goal.returns-then-has-clause-named
returns-then-has-clause-named g c table s v m =
    sym (ap (λ b. cond b (c.args.r ∷ c.args.work.now.names) c.args.work.now.names)
    (not_bare (g.S.Store.rows c.args.store.now) table s v c.args.taken.now.keys c.args.r c.args.regions.now m (sym c.has.ensures ∙ c.if-has.true)))

pub unborrow-requires-clause-not_less : goal.unborrow-requires-clause-not_less
unborrow-requires-clause-not_less g c =
    let h = c.requires.may in
    let m = h.1.1.1 in
    let out = sym c.has.ensures ∙ c.if-has.false in
    not_less (g.S.Store.rows c.args.store.now) h.0 h.1.0 h.1.1.0 c.args.taken.now.keys c.args.r c.args.regions.now m out c.lost_borrows-lost.result
    (c.lost_borrows-lost.ensures h.0 h.1.0 m.domain m.bridge out)

pub is_bare-requires : goal.is_bare-requires
is_bare-requires g c =
    let h = c.requires.may in
    let m = h.1.1.1 in
    let out = sym c.has.ensures ∙ c.if-has.false in
    ap (λ l. has_region l c.args.r) c.unborrow.ensures.subtracted
    ∙ still_there (g.S.Store.rows c.args.store.now) h.0 h.1.0 h.1.1.0 c.args.taken.now.keys c.args.r c.args.regions.now m out c.lost_borrows-lost.result
    (c.lost_borrows-lost.ensures h.0 h.1.0 m.domain m.bridge out)

pub returns-then-is_bare-clause-turned : goal.returns-then-is_bare-clause-turned
returns-then-is_bare-clause-turned g c table s v m =
    let out = sym c.has.ensures ∙ c.if-has.false in
    subst (TurnsTo (freeze_result s v) (c.args.r ∷ []) c.args.regions.now) (sym c.unborrow.ensures.subtracted)
    (turned_stay (g.S.Store.rows c.args.store.now) table s v c.args.taken.now.keys c.args.r c.args.regions.now m out c.lost_borrows-lost.result (c.lost_borrows-lost.ensures table s m.domain m.bridge out))

pub returns-then-is_bare-clause-named : goal.returns-then-is_bare-clause-named
returns-then-is_bare-clause-named g c table s v m =
    let out = sym c.has.ensures ∙ c.if-has.false in
    let bare = bare_is (g.S.Store.rows c.args.store.now) table s v c.args.taken.now.keys c.args.r c.args.regions.now m out c.lost_borrows-lost.result (c.lost_borrows-lost.ensures table s m.domain m.bridge out) in
    c.push.ensures.names
    ∙ sym (ap (λ b. cond b (c.args.r ∷ c.args.work.now.names) c.args.work.now.names)
    (bare ∙ ap (λ l. not (owned_of l c.args.r) && eqb (borrowed_of l c.args.r) 0) (sym c.unborrow.ensures.subtracted) ∙ sym c.is_bare.ensures ∙ c.if-is_bare.true))

pub returns-else-is_bare-clause-turned : goal.returns-else-is_bare-clause-turned
returns-else-is_bare-clause-turned g c table s v m =
    let out = sym c.has.ensures ∙ c.if-has.false in
    subst (TurnsTo (freeze_result s v) (c.args.r ∷ []) c.args.regions.now) (sym c.unborrow.ensures.subtracted)
    (turned_stay (g.S.Store.rows c.args.store.now) table s v c.args.taken.now.keys c.args.r c.args.regions.now m out c.lost_borrows-lost.result (c.lost_borrows-lost.ensures table s m.domain m.bridge out))

pub returns-else-is_bare-clause-named : goal.returns-else-is_bare-clause-named
returns-else-is_bare-clause-named g c table s v m =
    let out = sym c.has.ensures ∙ c.if-has.false in
    let bare = bare_is (g.S.Store.rows c.args.store.now) table s v c.args.taken.now.keys c.args.r c.args.regions.now m out c.lost_borrows-lost.result (c.lost_borrows-lost.ensures table s m.domain m.bridge out) in
    sym (ap (λ b. cond b (c.args.r ∷ c.args.work.now.names) c.args.work.now.names)
    (bare ∙ ap (λ l. not (owned_of l c.args.r) && eqb (borrowed_of l c.args.r) 0) (sym c.unborrow.ensures.subtracted) ∙ sym c.is_bare.ensures ∙ c.if-is_bare.false))
