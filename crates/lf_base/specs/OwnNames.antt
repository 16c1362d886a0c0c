-- What a change of a state may bring of names: objects of the behaviour's own birth, and cowns that it makes.
use Rattle.std.specs.Prelude.{◌++◌, ◌≡◌, ◌⊎◌}
use Rattle.lf_base.specs.declared.ids.CownId.{CownId}
use Rattle.lf_base.specs.declared.ids.ObjId.{ObjId}
use Rattle.lf_base.specs.declared.values.Value.{Value}
use Rattle.lf_base.specs.Contents.{cowns_of}
use Rattle.lf_base.specs.HeapCalls.{Changed, Done, Refused}
use Rattle.lf_base.specs.Names.{cowns_of_value}
use Rattle.lf_base.specs.Owners.{names}
use Rattle.lf_base.specs.PlainState.{State}
use Rattle.lf_base.specs.Sets.{Member}
use Rattle.lf_base.specs.WellFormed.{all_cowns}

-- each cown that the value names is known to the state
abbrev pub KnowsCowns : State → Value → Type 0
KnowsCowns s v = (c : CownId) → Member c (cowns_of_value v) → Member c (all_cowns s)

-- from s to t no name came but of the own birth, and no cown but those that were made; given rows and held cowns are the same
pub record AddsOwnNames (s t : State) : Type 0 where
  pub birth : t.birth ≡ s.birth
  pub given : t.given ≡ s.given
  pub held : cowns_of t.held ≡ cowns_of s.held
  -- the names of mutable rows and of rows that it froze itself
  pub names : (o : ObjId) → Member o (names t.rows ++ names t.own) → Member o (names s.rows ++ names s.own) ⊎ (o.birth ≡ s.birth)
  pub made : (c : CownId) → Member c (cowns_of s.made) → Member c (cowns_of t.made)
  pub cowns : (c : CownId) → Member c (all_cowns t) → Member c (all_cowns s) ⊎ Member c (cowns_of t.made)

-- so does what comes of a call, if it isn't refused
abbrev pub CallAddsOwnNames : State → Changed → Type 0
CallAddsOwnNames s (Done t) = AddsOwnNames s t
CallAddsOwnNames s (Refused f) = Unit {0}
