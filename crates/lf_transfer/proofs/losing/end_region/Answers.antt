use Rattle.std.proofs.Common.{ap, arith, cond, not, ◌&&◌, ◌-◌, ◌∙◌, false}
use Rattle.lf_base.specs.Names.{same_name}
use Rattle.lf_base.proofs.NameLemmas.SameNames.{same_name_itself}
use Rattle.lf_domain.proofs.TableEdges.{flag_borrowed, flag_owned, has_borrowed, has_owned, number_borrowed, number_owned}
use Rattle.lf_regions.specs.Regions.{borrowed_of, has_region, owned_of}
use Rattle.lf_regions.proofs.ChangeLaws.{ended_has}
use Rattle.lf_regions.proofs.RegionNumbers.{read_ended}
use Rattle.lf_regions.specs.declared.region.Region.{Region}
use Rattle.lf_transfer.proofs.losing.end_region.Goals as goal

pub set_owned-requires : goal.set_owned-requires
set_owned-requires c =
    let t = c.args.regions.now in
    let r = c.args.r in
    ap (λ l. has_region l r) c.unborrow.ensures.subtracted ∙ has_borrowed t r r (borrowed_of t r - c.borrowed-borrows.result) ∙ c.requires

pub end-requires-clause-there : goal.end-requires-clause-there
end-requires-clause-there c =
    let t = c.args.regions.now in
    let r = c.args.r in
    ap (λ l. has_region l r) c.set_owned.ensures.set ∙ has_owned c.unborrow.new.self r r false
    ∙ ap (λ l. has_region l r) c.unborrow.ensures.subtracted ∙ has_borrowed t r r (borrowed_of t r - c.borrowed-borrows.result) ∙ c.requires

pub end-requires-clause-not_borrowed : goal.end-requires-clause-not_borrowed
end-requires-clause-not_borrowed c =
    let t = c.args.regions.now in
    let r = c.args.r in
    omega (
      arith,
      ap (λ l. borrowed_of l r) c.set_owned.ensures.set ∙ number_owned c.unborrow.new.self r r false ∙ ap (λ l. borrowed_of l r) c.unborrow.ensures.subtracted
          ∙ number_borrowed t r r (borrowed_of t r - c.borrowed-borrows.result) c.requires ∙ ap (λ b. cond b (borrowed_of t r - c.borrowed-borrows.result) (borrowed_of t r)) (same_name_itself r),
      c.borrowed-borrows.ensures.number,
    )

pub end-requires-clause-not_owned : goal.end-requires-clause-not_owned
end-requires-clause-not_owned c =
    let t = c.args.regions.now in
    let r = c.args.r in
    ap (λ l. owned_of l r) c.set_owned.ensures.set
    ∙ flag_owned c.unborrow.new.self r r false (ap (λ l. has_region l r) c.unborrow.ensures.subtracted ∙ has_borrowed t r r (borrowed_of t r - c.borrowed-borrows.result) ∙ c.requires)
    ∙ ap (λ b. cond b false (owned_of c.unborrow.new.self r)) (same_name_itself r)

pub returns-clause-names : goal.returns-clause-names
returns-clause-names c q =
    let t = c.args.regions.now in
    let r = c.args.r in
    ap (λ l. has_region l q) c.end.ensures.ended ∙ ended_has c.set_owned.new.self r q
    ∙ ap (λ b. not (same_name r q) && b) (ap (λ l. has_region l q) c.set_owned.ensures.set ∙ has_owned c.unborrow.new.self r q false
    ∙ ap (λ l. has_region l q) c.unborrow.ensures.subtracted ∙ has_borrowed t r q (borrowed_of t r - c.borrowed-borrows.result))

pub returns-clause-numbers : goal.returns-clause-numbers
returns-clause-numbers c q n =
    let t = c.args.regions.now in
    let r = c.args.r in
    ap (λ l. borrowed_of l q) c.end.ensures.ended ∙ read_ended (λ (x : Region). x.borrowed) 0 c.set_owned.new.self r q ∙ ap (λ b. cond b 0 (borrowed_of c.set_owned.new.self q)) n
    ∙ ap (λ l. borrowed_of l q) c.set_owned.ensures.set ∙ number_owned c.unborrow.new.self r q false
    ∙ ap (λ l. borrowed_of l q) c.unborrow.ensures.subtracted ∙ number_borrowed t r q (borrowed_of t r - c.borrowed-borrows.result) c.requires
    ∙ ap (λ b. cond b (borrowed_of t r - c.borrowed-borrows.result) (borrowed_of t q)) n

pub returns-clause-flags : goal.returns-clause-flags
returns-clause-flags c q n =
    let t = c.args.regions.now in
    let r = c.args.r in
    ap (λ l. owned_of l q) c.end.ensures.ended ∙ read_ended (λ (x : Region). x.owned) false c.set_owned.new.self r q ∙ ap (λ b. cond b false (owned_of c.set_owned.new.self q)) n
    ∙ ap (λ l. owned_of l q) c.set_owned.ensures.set
    ∙ flag_owned c.unborrow.new.self r q false (ap (λ l. has_region l r) c.unborrow.ensures.subtracted ∙ has_borrowed t r r (borrowed_of t r - c.borrowed-borrows.result) ∙ c.requires)
    ∙ ap (λ b. cond b false (owned_of c.unborrow.new.self q)) n
    ∙ ap (λ l. owned_of l q) c.unborrow.ensures.subtracted ∙ flag_borrowed t r q (borrowed_of t r - c.borrowed-borrows.result)
