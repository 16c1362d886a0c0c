-- Each name that has an owner stands among the names of the rows, and each bridge among the bridges of the state.
use Rattle.std.proofs.Common.{List, Some, subst, true, ◌≡◌}
use Rattle.lf_base.specs.Owners.{bridges, is_bridge, names, owner_in}
use Rattle.lf_base.specs.PlainState.{Row, State}
use Rattle.lf_base.specs.Sets.{Member}
use Rattle.lf_base.specs.declared.ids.ObjId.{ObjId}
use Rattle.lf_base.specs.declared.values.Owner.{Owner}
use Rattle.lf_base.specs.declared.values.Owner.TheVariants.{In}
use Rattle.lf_base.proofs.ListLemmas.Filters.{Member_filter}
use Rattle.lf_base.proofs.ListLemmas.Members.{Member_map}
use Rattle.lf_laws.proofs.Rows.OwnerTests.{in_region}
use Rattle.lf_laws.proofs.Rows.RowsByName.{row_of}

pub name_listed : (rows : List Row) (o : ObjId) (w : Owner) → owner_in rows o ≡ Some w → Member o (names rows)
name_listed rows o w h = let y = row_of rows o w h in subst (λ n. Member n (names rows)) y.name (Member_map (λ (r : Row). r.name) y.row rows y.mem)

pub bridge_listed : (s : State) (r : ObjId) → is_bridge s.rows r ≡ true → Member r (bridges s)
bridge_listed s r h = Member_filter (is_bridge s.rows) r (names s.rows) (name_listed s.rows r (In r) (in_region r (owner_in s.rows r) h)) h
