use Rattle.std.proofs.Common.{Some, ap, subst, sym, ◌∙◌, ◌≡◌}
use Rattle.std.specs.Option.{IsSome}
use Rattle.lf_base.specs.Names.{same_name}
use Rattle.lf_base.proofs.NameLemmas.SameNames.{same_name_is, same_name_itself}
use Rattle.lf_poolstore.specs.RowLists.{entry_at}
use Rattle.lf_poolstore.proofs.SeenUnits.{is_there, name_seen, stands_seen}
use Rattle.lf_poolstore.proofs.unit.Unit.holds.Goals as goal

pub returns-in-Some : goal.returns-in-Some
returns-in-Some c =
    let found : entry_at c.self.inside.rows.entries c.args.at ≡ Some c.in-Some.row = sym c.get.ensures ∙ c.in-Some.is in (
      λ t. stands_seen c.self.inside.owner c.self.inside.rows c.self.inside.cells c.args.self.now (record { unit = c.self.invariant; is = c.self.view_is }) c.args.at c.args.o c.in-Some.row found
          (same_name_is c.in-Some.row.name c.args.o (sym c.is_same.ensures ∙ t)),
      λ here. c.is_same.ensures ∙ ap (λ n. same_name n c.args.o) (name_seen c.self.inside.owner c.self.inside.rows c.self.inside.cells c.args.self.now (record { unit = c.self.invariant; is = c.self.view_is }) c.args.at c.args.o here c.in-Some.row found)
          ∙ same_name_itself c.args.o,
    )

pub returns-in-None : goal.returns-in-None
returns-in-None c = (
  λ t. absurd (cc t),
  λ here.
      let some = is_there c.self.inside.owner c.self.inside.rows c.self.inside.cells c.args.self.now (record { unit = c.self.invariant; is = c.self.view_is }) c.args.at c.args.o here in
      absurd (cc (subst IsSome (sym c.get.ensures ∙ c.in-None.is) some)),
)
