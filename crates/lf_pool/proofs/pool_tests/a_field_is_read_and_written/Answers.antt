use Rattle.std.proofs.Common.{[], ap, refl, ◌||◌, ◌∷◌}
use Rattle.std.specs.Prelude.{eqb}
use Rattle.std.proofs.lemmas.Bool.Decides.{Decides-eqb}
use Rattle.lf_base.specs.Links.{has}
use Rattle.lf_pool.proofs.pool_tests.a_field_is_read_and_written.Goals as goal

pub next-requires : goal.next-requires
next-requires g c =
    let cell = c.take-cell.result in
    (cell ∷ [], (c.set.ensures.chains cell (cell ∷ []) c.take-cell.ensures.chain).0.0, ap (λ t. t || has eqb cell []) ((Decides-eqb cell cell).1 refl))

pub give_all-requires : goal.give_all-requires
give_all-requires g c =
    let cell = c.take-cell.result in
    record { chain = (cell ∷ [], c.set.ensures.chains cell (cell ∷ []) c.take-cell.ensures.chain, refl) }
