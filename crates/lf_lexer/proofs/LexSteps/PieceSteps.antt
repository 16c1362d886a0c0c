-- The tokens of a line, one step after another.
use Rattle.std.proofs.Common.{◌≡◌, ◌∙◌, ℕ, suc, ◌+◌, ◌≤◌, ◌⊎◌, inl, inr, List, [], ◌∷◌, ◌++◌, length, take, drop, refl, sym, ap, subst, arith, append-nil, append_assoc}
use Rattle.std.proofs.lemmas.List.{length-take-le, take-append-drop}
use Rattle.lf_base.specs.declared.refusals.RefusalKind.{RefusalKind}
use Rattle.lf_lexer.specs.declared.front.Front.{Front}
use Rattle.lf_lexer.specs.declared.front.Front.TheVariants as f
use Rattle.lf_lexer.specs.declared.line.Step.TheVariants as step
use Rattle.lf_lexer.specs.declared.lexed.Lexed.{Lexed}
use Rattle.lf_lexer.specs.declared.line_start.LineStart.{LineStart}
use Rattle.lf_lexer.specs.Front.{front}
use Rattle.lf_lexer.specs.Meaning.{meaning}
use Rattle.lf_lexer.specs.Pieces.{PieceForm, name, number, text_of, mark_of, Piece, RestSpells, StopsAt}
use Rattle.lf_lexer.specs.Pieces as p
use Rattle.lf_lexer.specs.Reading.{end_of}
use Rattle.lf_lexer.specs.Refusals.{RestRefused}
use Rattle.lf_lexer.specs.Refusals as r
use Rattle.lf_lexer.specs.Lexing.{with_front, step_at, AddsPieces, LexesPieces}
use Rattle.lf_lexer.proofs.NextPiece.Fronts.{Taken, Stands, stands}
use Rattle.lf_lexer.proofs.LexSteps.Adding.{adds_on, adds_name, adds_number, adds_mark, adds_quoted}

-- the token over which a step goes, and what it adds
pub record PieceThere (bytes : List ℕ) (x : Front) (len : ℕ) : Type 0 where
  pub form : PieceForm
  pub taken : Taken bytes len form
  pub adds : (line : LineStart) (at : ℕ) (new newer : Lexed) → newer ≡ with_front line new at bytes x
      → AddsPieces new newer ((record { form = form; line = line; at = at; bytes = take len bytes }) ∷ [])

pub piece_there : (bytes : List ℕ) (len : ℕ) → step.Piece len ≡ step_at (front bytes) → PieceThere bytes (front bytes) len
unfolding step_at with_front
piece_there bytes len = by_front (front bytes) (stands bytes)
  where
    moved : (x : Front) (n : ℕ) → step.Piece len ≡ step.Piece n → PieceThere bytes x n → PieceThere bytes x len
    moved x n e there = let same : n ≡ len = cc in subst (PieceThere bytes x) same there

    by_front : (x : Front) → Stands bytes x → step.Piece len ≡ step_at x → PieceThere bytes x len
    by_front f.End is e = cc
    by_front f.Space is e = cc
    by_front (f.Name n) taken e =
        moved (f.Name n) n e (record { form = name; taken = taken; adds = λ line at new newer g. adds_name line at n bytes new newer taken.within g })
    by_front (f.Number value n) taken e = moved (f.Number value n) n e (record {
      form = number;
      taken = taken.0;
      adds = λ line at new newer g. adds_number line at n bytes new newer taken.0.within value taken.1 g;
    })
    by_front (f.Text n) taken e = let text = meaning (take n (drop 1 bytes)) in moved (f.Text n) (n + 2) e (record {
      form = text_of text;
      taken = taken;
      adds = λ line at new newer g. adds_quoted line at n bytes new newer text taken.within g;
    })
    by_front (f.Sign mark n) taken e =
        moved (f.Sign mark n) n e (record { form = mark_of mark; taken = taken; adds = λ line at new newer g. adds_mark line at n bytes new newer taken.within mark g })
    by_front (f.Refused kind offset) is e = cc

-- the space over which a step goes
space_there : (bytes : List ℕ) → step.Space ≡ step_at (front bytes) → (front bytes ≡ f.Space) × (bytes ≡ 32 ∷ drop 1 bytes)
unfolding step_at
space_there bytes = by_front (front bytes) (stands bytes)
  where
    by_front : (x : Front) → Stands bytes x → step.Space ≡ step_at x → (x ≡ f.Space) × (bytes ≡ 32 ∷ drop 1 bytes)
    by_front f.End is e = cc
    by_front f.Space is e = (refl, is)
    by_front (f.Name n) is e = cc
    by_front (f.Number value n) is e = cc
    by_front (f.Text n) is e = cc
    by_front (f.Sign mark n) is e = cc
    by_front (f.Refused kind offset) is e = cc

pub space_takes : (bytes : List ℕ) → step.Space ≡ step_at (front bytes) → 1 ≤ length bytes
space_takes bytes e =
    let one : length bytes ≡ 1 + length (drop 1 bytes) = ap length (space_there bytes e).1 ∙ (let e : suc (length (drop 1 bytes)) ≡ 1 + length (drop 1 bytes) = omega arith in e) in
    omega arith

-- the tokens so far of a line from a place on, of which this rest is left
pub record PiecesSoFar (line : LineStart) (start : ℕ) (bytes : List ℕ) (old new : Lexed) (at : ℕ) (rest : List ℕ) (end : ℕ) : Type 0 where
  pub pieces : List Piece
  pub on : (others : List Piece) → RestSpells line at rest others → RestSpells line start bytes (pieces ++ others)
  pub refused : (kind : RefusalKind) (place : ℕ) → RestRefused at rest kind place → RestRefused start bytes kind place
  pub stops : (stop : ℕ) → StopsAt at rest stop → StopsAt start bytes stop
  pub adds : AddsPieces old new pieces
  pub end_is : end ≡ end_of 0 pieces

end_push : (end : ℕ) (pieces : List Piece) (piece : Piece) → end_of end (pieces ++ piece ∷ []) ≡ piece.at + length piece.bytes
end_push end [] piece = refl
end_push end (first ∷ pieces) piece = end_push (first.at + length first.bytes) pieces piece

-- one token more
pub step_piece : (line : LineStart) (start : ℕ) (bytes : List ℕ) (old new newer : Lexed) (at : ℕ) (rest : List ℕ) (end len : ℕ)
    → step.Piece len ≡ step_at (front rest) → newer ≡ with_front line new at rest (front rest) → PiecesSoFar line start bytes old new at rest end
    → PiecesSoFar line start bytes old newer (at + len) (drop len rest) (at + len)
step_piece line start bytes old new newer at rest end len e g s =
    let there = piece_there rest len e in
    let piece : Piece = record { form = there.form; line = line; at = at; bytes = take len rest } in
    let long : length (take len rest) ≡ len = length-take-le len rest there.taken.within in
    let whole : take len rest ++ drop len rest ≡ rest = take-append-drop len rest in
    record {
      pieces = s.pieces ++ piece ∷ [];
      on = λ others spells.
          subst (RestSpells line start bytes) (sym (append_assoc s.pieces (piece ∷ []) others))
          (s.on (piece ∷ others) (subst (λ (all : List ℕ). RestSpells line at all (piece ∷ others)) whole
          (p.next there.taken.longest (subst (λ (n : ℕ). RestSpells line (at + n) (drop len rest) others) (sym long) spells))));
      refused = λ kind place is.
          s.refused kind place (subst (λ (all : List ℕ). RestRefused at all kind place) whole
          (r.after_token there.taken.longest (subst (λ (n : ℕ). RestRefused (at + n) (drop len rest) kind place) (sym long) is)));
      stops = λ stop is.
          s.stops stop (subst (λ (all : List ℕ). StopsAt at all stop) whole
          (p.past_token there.taken.longest (subst (λ (n : ℕ). StopsAt (at + n) (drop len rest) stop) (sym long) is)));
      adds = adds_on old new newer s.pieces (piece ∷ []) s.adds (there.adds line at new newer g);
      end_is = ap (λ (n : ℕ). at + n) (sym long) ∙ sym (end_push 0 s.pieces piece);
    }

pub step_space : (line : LineStart) (start : ℕ) (bytes : List ℕ) (old new newer : Lexed) (at : ℕ) (rest : List ℕ) (end : ℕ)
    → step.Space ≡ step_at (front rest) → newer ≡ with_front line new at rest (front rest) → PiecesSoFar line start bytes old new at rest end
    → PiecesSoFar line start bytes old newer (at + 1) (drop 1 rest) end
unfolding with_front
step_space line start bytes old new newer at rest end e g s =
    let there = space_there rest e in
    let same : newer ≡ new = g ∙ ap (λ (x : Front). with_front line new at rest x) there.0 in
    subst (λ (l : Lexed). PiecesSoFar line start bytes old l (at + 1) (drop 1 rest) end) (sym same) (record {
      pieces = s.pieces;
      on = λ others spells. s.on others (subst (λ (all : List ℕ). RestSpells line at all others) (sym there.1) (p.space spells));
      refused = λ kind place no. s.refused kind place (subst (λ (all : List ℕ). RestRefused at all kind place) (sym there.1) (r.after_space no));
      stops = λ stop is. s.stops stop (subst (λ (all : List ℕ). StopsAt at all stop) (sym there.1) (p.past_space is));
      adds = s.adds;
      end_is = s.end_is;
    })

-- a step that ends the tokens stands before a comment or at the line's end
ends_there : (bytes : List ℕ) → step.End ≡ step_at (front bytes) → (front bytes ≡ f.End) × ((bytes ≡ []) ⊎ (bytes ≡ 35 ∷ drop 1 bytes))
unfolding step_at
ends_there bytes = by_front (front bytes) (stands bytes)
  where
    by_front : (x : Front) → Stands bytes x → step.End ≡ step_at x → (x ≡ f.End) × ((bytes ≡ []) ⊎ (bytes ≡ 35 ∷ drop 1 bytes))
    by_front f.End is e = (refl, is)
    by_front f.Space is e = cc
    by_front (f.Name n) is e = cc
    by_front (f.Number value n) is e = cc
    by_front (f.Text n) is e = cc
    by_front (f.Sign mark n) is e = cc
    by_front (f.Refused kind offset) is e = cc

pub step_end : (line : LineStart) (start : ℕ) (bytes : List ℕ) (old new newer : Lexed) (at : ℕ) (rest : List ℕ) (end : ℕ)
    → step.End ≡ step_at (front rest) → newer ≡ with_front line new at rest (front rest) → PiecesSoFar line start bytes old new at rest end
    → LexesPieces line start bytes old newer end
unfolding with_front
step_end line start bytes old new newer at rest end e g s =
    let there = ends_there rest e in
    let same : newer ≡ new = g ∙ ap (λ (x : Front). with_front line new at rest x) there.0 in
    subst (λ (l : Lexed). LexesPieces line start bytes old l end) (sym same) (record {
      pieces = s.pieces;
      spells = subst (RestSpells line start bytes) (append-nil s.pieces) (s.on [] (ends rest there.1));
      adds = s.adds;
      end_is = s.end_is;
    })
  where
    ends : (bytes : List ℕ) → (bytes ≡ []) ⊎ (bytes ≡ 35 ∷ drop 1 bytes) → RestSpells line at bytes []
    ends bytes (inl e) = subst (λ (all : List ℕ). RestSpells line at all []) (sym e) p.ended
    ends bytes (inr e) = subst (λ (all : List ℕ). RestSpells line at all []) (sym e) p.comment

pub step_stops : (line : LineStart) (start : ℕ) (bytes : List ℕ) (old new : Lexed) (at : ℕ) (rest : List ℕ) (end : ℕ)
    → step.End ≡ step_at (front rest) → PiecesSoFar line start bytes old new at rest end → StopsAt start bytes at
step_stops line start bytes old new at rest end e s = s.stops at (stops rest (ends_there rest e).1)
  where
    stops : (bytes : List ℕ) → (bytes ≡ []) ⊎ (bytes ≡ 35 ∷ drop 1 bytes) → StopsAt at bytes at
    stops bytes (inl e) = subst (λ (all : List ℕ). StopsAt at all at) (sym e) p.at_end
    stops bytes (inr e) = subst (λ (all : List ℕ). StopsAt at all at) (sym e) p.at_comment

pub step_refused : (line : LineStart) (start : ℕ) (bytes : List ℕ) (old new : Lexed) (at : ℕ) (rest : List ℕ) (end : ℕ) (kind : RefusalKind) (offset : ℕ)
    → step.Refused kind offset ≡ step_at (front rest) → PiecesSoFar line start bytes old new at rest end → RestRefused start bytes kind (at + offset)
unfolding step_at
step_refused line start bytes old new at rest end kind offset = by_front (front rest) (stands rest)
  where
    by_front : (x : Front) → Stands rest x → step.Refused kind offset ≡ step_at x → PiecesSoFar line start bytes old new at rest end → RestRefused start bytes kind (at + offset)
    by_front f.End is e s = cc
    by_front f.Space is e s = cc
    by_front (f.Name n) is e s = cc
    by_front (f.Number value n) is e s = cc
    by_front (f.Text n) is e s = cc
    by_front (f.Sign mark n) is e s = cc
    by_front (f.Refused kind' offset') is e s =
        let kinds : kind' ≡ kind = cc in
        let offsets : offset' ≡ offset = cc in
        s.refused kind (at + offset) (r.at_front (subst (λ (k : RefusalKind). r.FrontRefused rest k offset) kinds (subst (r.FrontRefused rest kind') offsets is)))
