-- What behaviours that count hand in.
use Rattle.std.specs.Prelude.{[], length, ◌≡◌, ◌≤◌, ℕ}
use Rattle.lf_base.specs.declared.behaviours.Spawn.{Spawn}
use Rattle.lf_base.specs.Names.{same_cown}
use Rattle.lf_base.specs.Sets.{Differ, Member}
use Rattle.lf_core.specs.declared.actor.Outcome.{Outcome}

-- of that number, with few spawns on distinct cowns, and no frozen rows
pub record HandsIn {C : Type 0} (id : ℕ) (done : Outcome C) : Type 0 where
  pub number : done.id ≡ id
  pub few : length done.spawns ≤ 3
  pub differ : (spawn : Spawn) → Member spawn done.spawns → Differ same_cown spawn.cowns
  pub no_rows : done.rows ≡ []
