-- The list of suspects in the order in which they were pushed.
use Rattle.std.proofs.Common.{List, Option, ap, map, reverse, slice_get, sym, take, ℕ, ◌∙◌, ◌≡◌}
use Rattle.std.proofs.lemmas.List.{reverse-reverse, take-map}
use Rattle.std.proofs.lemmas.Option.{slice_get-map}
use Rattle.std.specs.Option.{option_map}
use Rattle.lf_base.specs.Suspects as place
use Rattle.lf_settle.specs.declared.work.Suspect.{Suspect}
use Rattle.lf_settle.specs.WorkLists.{stacked, suspected_place}

pub pushed_order : (items : List Suspect) → reverse (stacked items) ≡ map suspected_place items
pushed_order items = reverse-reverse (map suspected_place items)

pub suspect_at : (items : List Suspect) (found : List place.Suspect) (n : ℕ) (r : Option Suspect) → stacked items ≡ found → r ≡ slice_get items n
    → option_map suspected_place r ≡ slice_get (reverse found) n
suspect_at items found n r view e =
    ap (option_map suspected_place) e ∙ sym (slice_get-map suspected_place items n) ∙ ap (λ l. slice_get l n) (sym (pushed_order items) ∙ ap reverse view)

pub first_suspects : (items new : List Suspect) (found : List place.Suspect) (n : ℕ) → stacked items ≡ found → new ≡ take n items → reverse (stacked new) ≡ take n (reverse found)
first_suspects items new found n view e =
    pushed_order new ∙ ap (map suspected_place) e ∙ sym (take-map suspected_place n items) ∙ ap (take n) (sym (pushed_order items) ∙ ap reverse view)
