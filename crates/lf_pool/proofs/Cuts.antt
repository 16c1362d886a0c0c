-- What taking a later cell out of a chain does.
use Rattle.std.proofs.Common.{◌≡◌, ℕ, ◌<◌, true, false, cond, ◌||◌, List, [], ◌∷◌, ◌++◌, length, Option, Some, None, refl, ap, sym, ◌∙◌, subst, unwrap_or}
use Rattle.std.specs.Prelude.{eqb}
use Rattle.std.specs.Option.{option_map}
use Rattle.std.proofs.lemmas.Bool.Decides.{Decides-eqb}
use Rattle.lf_base.specs.declared.links.Link.{Link}
use Rattle.lf_base.specs.Links.{link, head_or, last_or, LinksSpell, to_next, to_prev, Lacks, LacksAt, NodesDiffer, relinked, has}
use Rattle.lf_base.proofs.ListLemmas.LinkedLists.{Differ-without, Lacks-from_has, LinksSpell-append, LinksSpell-left, LinksSpell-right, LinksSpell-relinked, LinksSpell-to_next, LinksSpell-to_prev, has-append, relinked-agree}
use Rattle.std.proofs.Math.Bool.{or-true}
use Rattle.lf_pool.specs.declared.cell.Cell.{Cell}
use Rattle.lf_pool.specs.Cells.{IsChain, link_at, node}
use Rattle.lf_pool.proofs.Beheads.{single, stays_linked}
use Rattle.lf_pool.proofs.Chains.{NodesDiffer-left, NodesDiffer-right, Table, chain_agrees, last_in, last_lacks, last_or_append, mid_lacks, same_chain}
use Rattle.lf_pool.proofs.Joins.{Lacks-append, in_range}

-- the links after the cell between p and n is taken out, and stands alone
abbrev pub cut_links : Table → Option ℕ → Option ℕ → ℕ → ℕ → Table
cut_links get p n second q = relinked eqb (relinked eqb (relinked eqb get p (to_next n)) (Some second) (to_prev p)) (Some q) (single q)

-- the first of what is left after the cell, or else of the chain
abbrev pub second_of : List ℕ → ℕ → ℕ
second_of behind x = unwrap_or (head_or behind None) x

apart_middle : (xs ys : List ℕ) (q : ℕ) → NodesDiffer eqb (xs ++ q ∷ ys) → Lacks eqb q (xs ++ ys)
apart_middle xs ys q d = Lacks-append q xs ys (mid_lacks xs ys q d) (NodesDiffer-right xs (q ∷ ys) d).0

last_or_nil : (c : Option ℕ) (xs : List ℕ) → last_or c (xs ++ []) ≡ last_or c xs
last_or_nil c [] = refl
last_or_nil c (x ∷ xs) = last_or_nil (Some x) xs

pub cut_rest : (get : Table) (x : ℕ) (xs : List ℕ) (q : ℕ) (ys : List ℕ) → IsChain get ((x ∷ xs) ++ q ∷ ys)
    → IsChain (cut_links get (last_or (Some x) xs) (head_or ys None) (second_of ys x) q) ((x ∷ xs) ++ ys)
cut_rest get x xs q [] h =
    let p = last_or (Some x) xs in
    let l = last_or None ((x ∷ xs) ++ q ∷ []) in
    let one = relinked eqb get p (to_next None) in
    let two = relinked eqb one (Some x) (to_prev p) in
    let new = relinked eqb two (Some q) (single q) in
    let rest = Differ-without eqb Decides-eqb (x ∷ xs) [] q h.differ in
    let dx = NodesDiffer-left (x ∷ xs) (q ∷ []) h.differ in
    let a0 : LinksSpell get l (x ∷ xs) (Some q) = LinksSpell-left get l (x ∷ xs) (q ∷ []) None h.links in
    let a1 : LinksSpell one l (x ∷ xs) None = LinksSpell-to_next eqb Decides-eqb get l None (x ∷ xs) (Some q) None dx a0 in
    let a2 : LinksSpell two p (x ∷ xs) None = LinksSpell-to_prev eqb Decides-eqb one l None (x ∷ xs) None p dx a1 in
    let a3 : LinksSpell two p ((x ∷ xs) ++ []) None = LinksSpell-append two p (x ∷ xs) [] None a2 tt in
    let a4 : LinksSpell new p ((x ∷ xs) ++ []) None = LinksSpell-relinked eqb Decides-eqb two (single q) (Some q) p ((x ∷ xs) ++ []) None (apart_middle (x ∷ xs) [] q h.differ) a3 in
    record { links = subst (λ t. LinksSpell new t ((x ∷ xs) ++ []) None) (sym (last_or_nil (Some x) xs)) a4; differ = rest }
cut_rest get x xs q (y ∷ ys) h =
    let p = last_or (Some x) xs in
    let l = last_or None ((x ∷ xs) ++ q ∷ y ∷ ys) in
    let one = relinked eqb get p (to_next (Some y)) in
    let two = relinked eqb one (Some y) (to_prev p) in
    let new = relinked eqb two (Some q) (single q) in
    let rest = Differ-without eqb Decides-eqb (x ∷ xs) (y ∷ ys) q h.differ in
    let dx = NodesDiffer-left (x ∷ xs) (y ∷ ys) rest in
    let dy = NodesDiffer-right (x ∷ xs) (y ∷ ys) rest in
    let a0 : LinksSpell get l (x ∷ xs) (Some q) = LinksSpell-left get l (x ∷ xs) (q ∷ y ∷ ys) None h.links in
    let b0 : LinksSpell get (Some q) (y ∷ ys) None = (LinksSpell-right get l (x ∷ xs) (q ∷ y ∷ ys) None h.links).1 in
    let a1 : LinksSpell one l (x ∷ xs) (Some y) = LinksSpell-to_next eqb Decides-eqb get l None (x ∷ xs) (Some q) (Some y) dx a0 in
    let b1 : LinksSpell one (Some q) (y ∷ ys) None = LinksSpell-relinked eqb Decides-eqb get (to_next (Some y)) p (Some q) (y ∷ ys) None (last_lacks None (x ∷ xs) (y ∷ ys) tt rest) b0 in
    let a2 : LinksSpell two l (x ∷ xs) (Some y) = LinksSpell-relinked eqb Decides-eqb one (to_prev p) (Some y) l (x ∷ xs) (Some y) (mid_lacks (x ∷ xs) ys y rest) a1 in
    let b2 : LinksSpell two p (y ∷ ys) None = LinksSpell-to_prev eqb Decides-eqb one (Some q) None (y ∷ ys) None p dy b1 in
    let c2 : LinksSpell two l ((x ∷ xs) ++ y ∷ ys) None = LinksSpell-append two l (x ∷ xs) (y ∷ ys) None a2 b2 in
    let c3 : LinksSpell new l ((x ∷ xs) ++ y ∷ ys) None = LinksSpell-relinked eqb Decides-eqb two (single q) (Some q) l ((x ∷ xs) ++ y ∷ ys) None (apart_middle (x ∷ xs) (y ∷ ys) q h.differ) c2 in
    record { links = subst (λ t. LinksSpell new t ((x ∷ xs) ++ y ∷ ys) None) (last_or_append (Some x) xs q (y ∷ ys) ∙ sym (last_or_append (Some x) xs y ys)) c3; differ = rest }

pub middle_link : (get : Table) (x : ℕ) (xs : List ℕ) (q : ℕ) (ys : List ℕ) → IsChain get ((x ∷ xs) ++ q ∷ ys) → get q ≡ Some (link (last_or (Some x) xs) (head_or ys None))
middle_link get x xs q ys h = (LinksSpell-right get (last_or None ((x ∷ xs) ++ q ∷ ys)) (x ∷ xs) (q ∷ ys) None h.links).0

pub cut_alone : (get : Table) (p n : Option ℕ) (second q : ℕ) (l : Link ℕ) → get q ≡ Some l → IsChain (cut_links get p n second q) (q ∷ [])
cut_alone get p n second q l e =
    let one = relinked eqb get p (to_next n) in
    let a = stays_linked get p (to_next n) q l e in
    let b = stays_linked one (Some second) (to_prev p) q a.0 a.1 in
    let two = relinked eqb one (Some second) (to_prev p) in
    record { links = (ap (λ t. cond t (option_map (single q) (two q)) (two q)) ((Decides-eqb q q).1 refl) ∙ ap (option_map (single q)) b.1, tt); differ = (tt, tt) }

pub cut_beside : (get : Table) (p n : Option ℕ) (second q : ℕ) (zs : List ℕ) → LacksAt eqb p zs → Lacks eqb second zs → Lacks eqb q zs → IsChain get zs → IsChain (cut_links get p n second q) zs
cut_beside get p n second q zs lp ls lq c =
    let b = last_or None zs in
    let one = relinked eqb get p (to_next n) in
    let two = relinked eqb one (Some second) (to_prev p) in
    record {
      links = LinksSpell-relinked eqb Decides-eqb two (single q) (Some q) b zs None lq
          (LinksSpell-relinked eqb Decides-eqb one (to_prev p) (Some second) b zs None ls
          (LinksSpell-relinked eqb Decides-eqb get (to_next n) p b zs None lp c.links));
      differ = c.differ;
    }

pub cut_writes : (get one two new : Table) (b second q : ℕ) (n : Option ℕ) → ((w : ℕ) → one w ≡ relinked eqb get (Some b) (to_next n) w) → ((w : ℕ) → two w ≡ relinked eqb one (Some second) (to_prev (Some b)) w)
    → ((w : ℕ) → new w ≡ relinked eqb two (Some q) (single q) w) → (w : ℕ) → new w ≡ cut_links get (Some b) n second q w
cut_writes get one two new b second q n f g h w =
    h w ∙ relinked-agree eqb Decides-eqb two (relinked eqb (relinked eqb get (Some b) (to_next n)) (Some second) (to_prev (Some b))) (Some q) (single q) w
    (g w ∙ relinked-agree eqb Decides-eqb one (relinked eqb get (Some b) (to_next n)) (Some second) (to_prev (Some b)) w (f w))

-- a chain with a cell that isn't its first one, what was read of that cell, and the links afterwards
module _ {T : Type 0} (cells : List (Cell T)) (new : Table) (x q b a second : ℕ) (xs ys : List ℕ) (h : IsChain (link_at cells) ((x ∷ xs) ++ q ∷ ys))
    (before : (l : Link ℕ) → link_at cells q ≡ Some l → l.prev ≡ Some b) (behind : (l : Link ℕ) → link_at cells q ≡ Some l → l.next ≡ node a) where
  pub is_before : last_or (Some x) xs ≡ Some b
  is_before = before _ (middle_link (link_at cells) x xs q ys h)

  pub is_behind : head_or ys None ≡ node a
  is_behind = behind _ (middle_link (link_at cells) x xs q ys h)

  member_left : (w : ℕ) → has eqb w (x ∷ xs) ≡ true → has eqb w ((x ∷ xs) ++ q ∷ ys) ≡ true
  member_left w m = has-append eqb Decides-eqb w (x ∷ xs) (q ∷ ys) ∙ ap (λ t. t || has eqb w (q ∷ ys)) m

  member_right : (w : ℕ) → has eqb w (q ∷ ys) ≡ true → has eqb w ((x ∷ xs) ++ q ∷ ys) ≡ true
  member_right w m = has-append eqb Decides-eqb w (x ∷ xs) (q ∷ ys) ∙ ap (λ t. has eqb w (x ∷ xs) || t) m ∙ or-true (has eqb w (x ∷ xs))

  pub first_member : has eqb x ((x ∷ xs) ++ q ∷ ys) ≡ true
  first_member = member_left x (ap (λ t. t || has eqb x xs) ((Decides-eqb x x).1 refl))

  pub cell_member : has eqb q ((x ∷ xs) ++ q ∷ ys) ≡ true
  cell_member = member_right q (ap (λ t. t || has eqb q ys) ((Decides-eqb q q).1 refl))

  pub before_member : has eqb b ((x ∷ xs) ++ q ∷ ys) ≡ true
  before_member = member_left b (last_in (x ∷ xs) b is_before)

  pub second_member : second ≡ unwrap_or (node a) x → has eqb second ((x ∷ xs) ++ q ∷ ys) ≡ true
  second_member e = ap (λ t. has eqb t ((x ∷ xs) ++ q ∷ ys)) (e ∙ ap (λ t. unwrap_or t x) (sym is_behind)) ∙ found ys refl where
    found : (zs : List ℕ) → zs ≡ ys → has eqb (second_of zs x) ((x ∷ xs) ++ q ∷ ys) ≡ true
    found [] s = first_member
    found (z ∷ zs) s = member_right z (ap (λ t. has eqb z (q ∷ t)) (sym s) ∙ ap (λ t. eqb z q || (t || has eqb z zs)) ((Decides-eqb z z).1 refl) ∙ or-true (eqb z q))

  pub cut_here : (zs ws : List ℕ) → IsChain (link_at cells) ((x ∷ zs) ++ q ∷ ws) → second ≡ unwrap_or (node a) x → ((w : ℕ) → new w ≡ cut_links (link_at cells) (Some b) (node a) second q w) → IsChain new ((x ∷ zs) ++ ws)
  cut_here zs ws k e writes =
      let l = middle_link (link_at cells) x zs q ws k in
      let eb : Some b ≡ last_or (Some x) zs = sym (before _ l) in
      let ea : node a ≡ head_or ws None = sym (behind _ l) in
      let es : second ≡ second_of ws x = e ∙ ap (λ t. unwrap_or t x) ea in
      chain_agrees (cut_links (link_at cells) (last_or (Some x) zs) (head_or ws None) (second_of ws x) q) new ((x ∷ zs) ++ ws)
      (λ w. writes w ∙ (λ i. cut_links (link_at cells) (eb i) (ea i) (es i) q w))
      (cut_rest (link_at cells) x zs q ws k)

  pub cut_alone_here : ((w : ℕ) → new w ≡ cut_links (link_at cells) (Some b) (node a) second q w) → IsChain new (q ∷ [])
  cut_alone_here writes = chain_agrees (cut_links (link_at cells) (Some b) (node a) second q) new (q ∷ []) writes (cut_alone (link_at cells) (Some b) (node a) second q _ (middle_link (link_at cells) x xs q ys h))

  pub cut_beside_here : (zs : List ℕ) → IsChain (link_at cells) zs → has eqb x zs ≡ false → second ≡ unwrap_or (node a) x → ((w : ℕ) → new w ≡ cut_links (link_at cells) (Some b) (node a) second q w) → IsChain new zs
  cut_beside_here zs z n e writes = chain_agrees (cut_links (link_at cells) (Some b) (node a) second q) new zs writes
      (cut_beside (link_at cells) (Some b) (node a) second q zs (lacks b before_member) (lacks second (second_member e)) (lacks q cell_member) z) where
        lacks : (w : ℕ) → has eqb w ((x ∷ xs) ++ q ∷ ys) ≡ true → Lacks eqb w zs
        lacks w m = Lacks-from_has eqb Decides-eqb w zs (elim (has eqb w zs) as (λ t. has eqb w zs ≡ t → t ≡ false) [
          | true ↦ λ k. let g : has eqb x zs ≡ true = ap (has eqb x) (sym (same_chain (link_at cells) ((x ∷ xs) ++ q ∷ ys) zs w h z m k)) ∙ first_member in absurd (cc (g, n))
          | false ↦ λ _. refl
        ] refl)

pub middle_in_range : {T : Type 0} (cells : List (Cell T)) (x q : ℕ) (xs ys : List ℕ) → IsChain (link_at cells) ((x ∷ xs) ++ q ∷ ys) → q < length cells
middle_in_range cells x q xs ys h = in_range cells q _ (middle_link (link_at cells) x xs q ys h)
