use Rattle.std.proofs.Common.{ap, arith, subst, sym, not, ◌&&◌, ◌∙◌, ◌≡◌}
use Rattle.lf_regions.specs.RegionChanges.{without_region}
use Rattle.lf_regions.specs.Regions.{borrowed_of, has_region, owned_of}
use Rattle.lf_transfer.specs.Merging.{Joins}
use Rattle.lf_transfer.proofs.Tables.JoinedRegions.{flagged, has_flagged, has_taken, has_unborrowed, has_unowned, is_flagged, is_taken, is_unborrowed, is_unowned, may_take, none_borrow, none_owns, region_joined}
use Rattle.lf_transfer.proofs.merging.join.Goals as goal
use Rattle.lf_transfer.proofs.merging.join.Goals.{else-not-is_child, then-not-is_child}

pub set_owned-requires : goal.set_owned-requires
set_owned-requires c =
    let t = c.args.regions.now in
    let a = c.args.into in
    let b = c.args.from in
    let r = c.requires in
    let now = is_unborrowed t a b r.into r.from r.other c.borrowed-borrows.result c.borrowed-borrows.ensures.number c.unborrow.new.self c.unborrow.ensures.subtracted in
    ap (λ l. has_region l b) now ∙ has_unborrowed t a b r.into r.from r.other b ∙ r.from

pub borrow-requires-clause-there : goal.borrow-requires-clause-there
borrow-requires-clause-there c =
    let t = c.args.regions.now in
    let a = c.args.into in
    let b = c.args.from in
    let r = c.requires in
    let now = is_unowned t a b r.into r.from r.other c.borrowed-borrows.result c.borrowed-borrows.ensures.number c.unborrow.new.self c.set_owned.new.self c.unborrow.ensures.subtracted c.set_owned.ensures.set in
    ap (λ l. has_region l a) now ∙ has_unowned t a b r.into r.from r.other a ∙ r.into

pub borrow-requires-clause-fits : goal.borrow-requires-clause-fits
borrow-requires-clause-fits c =
    let t = c.args.regions.now in
    let a = c.args.into in
    let b = c.args.from in
    let r = c.requires in
    let now = is_unowned t a b r.into r.from r.other c.borrowed-borrows.result c.borrowed-borrows.ensures.number c.unborrow.new.self c.set_owned.new.self c.unborrow.ensures.subtracted c.set_owned.ensures.set in
    omega (arith, ap (λ l. borrowed_of l a) now, c.borrowed-borrows.ensures.number, may_take t a b r.into r.from r.other r.fits)

pub set_owned-requires-2 : goal.set_owned-requires-2
set_owned-requires-2 c =
    let t = c.args.regions.now in
    let a = c.args.into in
    let b = c.args.from in
    let r = c.requires in
    let now = is_taken t a b r.into r.from r.other c.borrowed-borrows.result c.borrowed-borrows.ensures.number c.unborrow.new.self c.set_owned.new.self c.borrow.new.self c.unborrow.ensures.subtracted c.set_owned.ensures.set c.borrow.ensures.added in
    ap (λ l. has_region l a) now ∙ has_taken t a b r.into r.from r.other a ∙ r.into

pub end-requires-clause-there : goal.end-requires-clause-there
end-requires-clause-there c =
    let t = c.args.regions.now in
    let a = c.args.into in
    let b = c.args.from in
    let r = c.requires in
    let now = is_flagged t a b r.into r.from r.other c.borrowed-borrows.result c.borrowed-borrows.ensures.number c.if-not-is_child.set_owned c.unborrow.new.self c.set_owned.new.self c.borrow.new.self c.set_owned-2.new.self
    c.unborrow.ensures.subtracted c.set_owned.ensures.set c.borrow.ensures.added c.set_owned-2.ensures.set in
    ap (λ l. has_region l b) now ∙ has_flagged t a b r.into r.from r.other c.if-not-is_child.set_owned b ∙ r.from

pub end-requires-clause-not_borrowed : goal.end-requires-clause-not_borrowed
end-requires-clause-not_borrowed c =
    let t = c.args.regions.now in
    let a = c.args.into in
    let b = c.args.from in
    let r = c.requires in
    let now = is_flagged t a b r.into r.from r.other c.borrowed-borrows.result c.borrowed-borrows.ensures.number c.if-not-is_child.set_owned c.unborrow.new.self c.set_owned.new.self c.borrow.new.self c.set_owned-2.new.self
    c.unborrow.ensures.subtracted c.set_owned.ensures.set c.borrow.ensures.added c.set_owned-2.ensures.set in
    ap (λ l. borrowed_of l b) now ∙ none_borrow t a b r.into r.from r.other c.if-not-is_child.set_owned

pub end-requires-clause-not_owned : goal.end-requires-clause-not_owned
end-requires-clause-not_owned c =
    let t = c.args.regions.now in
    let a = c.args.into in
    let b = c.args.from in
    let r = c.requires in
    let now = is_flagged t a b r.into r.from r.other c.borrowed-borrows.result c.borrowed-borrows.ensures.number c.if-not-is_child.set_owned c.unborrow.new.self c.set_owned.new.self c.borrow.new.self c.set_owned-2.new.self
    c.unborrow.ensures.subtracted c.set_owned.ensures.set c.borrow.ensures.added c.set_owned-2.ensures.set in
    ap (λ l. owned_of l b) now ∙ none_owns t a b r.into r.from r.other c.if-not-is_child.set_owned

pub returns : goal.returns
returns c =
    let t = c.args.regions.now in
    let a = c.args.into in
    let b = c.args.from in
    let r = c.requires in
    let now = is_flagged t a b r.into r.from r.other c.borrowed-borrows.result c.borrowed-borrows.ensures.number c.if-not-is_child.set_owned c.unborrow.new.self c.set_owned.new.self c.borrow.new.self c.set_owned-2.new.self
    c.unborrow.ensures.subtracted c.set_owned.ensures.set c.borrow.ensures.added c.set_owned-2.ensures.set in
    let flag : c.if-not-is_child.set_owned ≡ (not c.args.is_child && owned_of t a) = elim c.if-not-is_child.branch [
      | then-not-is_child w ↦ w.set_owned-is ∙ c.is_owned-owned.ensures.flag ∙ sym (ap (λ x. not x && owned_of t a) w.if-not-is_child.true)
      | else-not-is_child w ↦ w.set_owned-is ∙ ap not w.if-not-is_child.false ∙ sym (ap (λ x. not x && owned_of t a) w.if-not-is_child.false)
    ] in
    subst (λ l. Joins t l a b c.args.is_child) (sym (c.end.ensures.ended ∙ ap (λ l. without_region l b) (now ∙ ap (flagged t a b r.into r.from r.other) flag)))
    (region_joined t a b r.into r.from r.other c.args.is_child)
