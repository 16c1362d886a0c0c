-- What taking the first cell off a chain does.
use Rattle.std.proofs.Common.{◌≡◌, ◌≢◌, ℕ, ◌<◌, true, false, cond, ◌||◌, List, [], ◌∷◌, length, Option, Some, None, refl, ap, sym, ◌∙◌, subst, unwrap_or}
use Rattle.std.specs.Prelude.{eqb}
use Rattle.std.specs.Option.{option_map}
use Rattle.std.proofs.lemmas.Bool.Decides.{Decides-eqb}
use Rattle.lf_base.specs.declared.links.Link.{Link}
use Rattle.lf_base.specs.Links.{link, head_or, last_or, LinksSpell, to_prev, LacksAt, relinked, has}
use Rattle.lf_base.proofs.ListLemmas.LinkedLists.{Lacks-from_has, LinksSpell-relinked, LinksSpell-to_prev}
use Rattle.std.proofs.Math.Bool.{or-true}
use Rattle.lf_pool.specs.declared.cell.TheConstants.{NONE}
use Rattle.lf_pool.specs.declared.cell.Cell.{Cell}
use Rattle.lf_pool.specs.Cells.{IsChain, link_at, node}
use Rattle.lf_pool.proofs.Joins.{chain_in_range}
use Rattle.lf_pool.proofs.Chains.{Table, LinksSpell-agree, same_chain}

pub node_other : (n : ℕ) → n ≢ NONE → node n ≡ Some n
node_other n h = elim (eqb n NONE) as (λ t. eqb n NONE ≡ t → cond t None (Some n) ≡ Some n) [
  | true ↦ λ e. absurd (h ((Decides-eqb n NONE).0 e))
  | false ↦ λ _. refl
] refl

pub stays_linked : (get : Table) (at : Option ℕ) (f : Link ℕ → Link ℕ) (q : ℕ) (l : Link ℕ) → get q ≡ Some l → (k : Link ℕ) × (relinked eqb get at f q ≡ Some k)
stays_linked get None f q l e = (l, e)
stays_linked get (Some n) f q l e = elim (eqb n q) as (λ t. (k : Link ℕ) × (cond t (option_map f (get q)) (get q) ≡ Some k)) [
  | true ↦ (f l, ap (option_map f) e)
  | false ↦ (l, e)
]

second_in : (x w : ℕ) (ys : List ℕ) → head_or ys None ≡ Some w → has eqb w (x ∷ ys) ≡ true
second_in x w [] e = absurd (cc e)
second_in x w (y ∷ ys) e = ap (λ b. eqb w x || (b || has eqb w ys)) ((Decides-eqb w y).1 (sym (ap (λ t. unwrap_or t y) e))) ∙ or-true (eqb w x)

lacks_at : (t : Option ℕ) (zs : List ℕ) → ((w : ℕ) → t ≡ Some w → has eqb w zs ≡ false) → LacksAt eqb t zs
lacks_at None zs k = tt
lacks_at (Some w) zs k = Lacks-from_has eqb Decides-eqb w zs (k w refl)

abbrev pub single : ℕ → Link ℕ → Link ℕ
single x l = link (Some x) None

module _ (get one new : Table) (x last rest : ℕ) (ys : List ℕ) (h : IsChain get (x ∷ ys)) (el : last_or None (x ∷ ys) ≡ Some last) (er : node rest ≡ head_or ys None)
    (first : (q : ℕ) → one q ≡ relinked eqb get (node rest) (to_prev (Some last)) q)
    (alone : (q : ℕ) → new q ≡ relinked eqb one (Some x) (single x) q) where
  firsts : (q : ℕ) → one q ≡ relinked eqb get (head_or ys None) (to_prev (Some last)) q
  firsts q = first q ∙ ap (λ t. relinked eqb get t (to_prev (Some last)) q) er

  pub behead_alone : IsChain new (x ∷ [])
  behead_alone =
      let k = stays_linked get (node rest) (to_prev (Some last)) x (link (last_or None (x ∷ ys)) (head_or ys None)) h.links.0 in
      let e : one x ≡ Some k.0 = first x ∙ k.1 in
      let f : new x ≡ Some (link (Some x) None) = alone x ∙ ap (λ b. cond b (option_map (single x) (one x)) (one x)) ((Decides-eqb x x).1 refl) ∙ ap (option_map (single x)) e in
      record { links = (f, tt); differ = (tt, tt) }

  pub behead_others : (zs : List ℕ) → IsChain get zs → has eqb x zs ≡ false → IsChain new zs
  behead_others zs z n =
      let out : (w : ℕ) → head_or ys None ≡ Some w → has eqb w zs ≡ false = λ w e. elim (has eqb w zs) as (λ t. has eqb w zs ≡ t → t ≡ false) [
        | true ↦ λ k. let s : (x ∷ ys) ≡ zs = same_chain get (x ∷ ys) zs w h z (second_in x w ys e) k in let g : has eqb x zs ≡ true = ap (has eqb x) (sym s) ∙ ap (λ b. b || has eqb x ys) ((Decides-eqb x x).1 refl) in absurd (cc (g, n))
        | false ↦ λ _. refl
      ] refl in
      record {
        links = LinksSpell-agree (relinked eqb one (Some x) (single x)) new (last_or None zs) zs None alone
            (LinksSpell-relinked eqb Decides-eqb one (single x) (Some x) (last_or None zs) zs None (Lacks-from_has eqb Decides-eqb x zs n)
            (LinksSpell-agree (relinked eqb get (head_or ys None) (to_prev (Some last))) one (last_or None zs) zs None firsts
            (LinksSpell-relinked eqb Decides-eqb get (to_prev (Some last)) (head_or ys None) (last_or None zs) zs None (lacks_at (head_or ys None) zs out) z.links)));
        differ = z.differ;
      }

rest_chain : (get one new : Table) (x last : ℕ) (ys : List ℕ) → IsChain get (x ∷ ys) → last_or None (x ∷ ys) ≡ Some last
    → ((q : ℕ) → one q ≡ relinked eqb get (head_or ys None) (to_prev (Some last)) q) → ((q : ℕ) → new q ≡ relinked eqb one (Some x) (single x) q) → IsChain new ys
rest_chain get one new x last [] h el first alone = record { links = tt; differ = tt }
rest_chain get one new x last (y ∷ ys) h el first alone =
    let a : LinksSpell (relinked eqb get (Some y) (to_prev (Some last))) (Some last) (y ∷ ys) None = LinksSpell-to_prev eqb Decides-eqb get (Some x) None (y ∷ ys) None (Some last) h.differ.1 h.links.1 in
    let b : LinksSpell one (Some last) (y ∷ ys) None = LinksSpell-agree (relinked eqb get (Some y) (to_prev (Some last))) one (Some last) (y ∷ ys) None first a in
    let d : LinksSpell new (Some last) (y ∷ ys) None = LinksSpell-agree (relinked eqb one (Some x) (single x)) new (Some last) (y ∷ ys) None alone (LinksSpell-relinked eqb Decides-eqb one (single x) (Some x) (Some last) (y ∷ ys) None h.differ.0 b) in
    record { links = subst (λ t. LinksSpell new t (y ∷ ys) None) (sym el) d; differ = h.differ.1 }

pub behead_rest : (get one new : Table) (x last rest : ℕ) (ys : List ℕ) → IsChain get (x ∷ ys) → last_or None (x ∷ ys) ≡ Some last → node rest ≡ head_or ys None
    → ((q : ℕ) → one q ≡ relinked eqb get (node rest) (to_prev (Some last)) q) → ((q : ℕ) → new q ≡ relinked eqb one (Some x) (single x) q) → IsChain new ys
behead_rest get one new x last rest ys h el er first alone = rest_chain get one new x last ys h el (λ q. first q ∙ ap (λ t. relinked eqb get t (to_prev (Some last)) q) er) alone

pub first_of : {T : Type 0} (cells : List (Cell T)) (x : ℕ) (ys : List ℕ) → IsChain (link_at cells) (x ∷ ys) → x < length cells
first_of cells x ys h = chain_in_range cells (x ∷ ys) x h (ap (λ b. b || has eqb x ys) ((Decides-eqb x x).1 refl))

pub second_in_range : {T : Type 0} (cells : List (Cell T)) (x : ℕ) (ys : List ℕ) → IsChain (link_at cells) (x ∷ ys) → (w : ℕ) → head_or ys None ≡ Some w → w < length cells
second_in_range cells x ys h w e = chain_in_range cells (x ∷ ys) w h (second_in x w ys e)
