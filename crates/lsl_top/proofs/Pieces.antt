-- Pieces that are written and sent, and then others.
use Rattle.std.proofs.Common.{◌≡◌, ℕ, zero, suc, ◌+◌, ◌<◌, List, [], ◌∷◌, ◌++◌, take, length, Option, refl, ap, ap₂, sym, ◌∙◌, subst, arith, append-nil, append_assoc, length-append}
use Rattle.std.proofs.lemmas.List.{map-append, take-append-le}
use Rattle.std.proofs.Math.Seq.{take-append-add}
use Rattle.lsl_ports.specs.Growth.{Begins, Grew, GrewPartly}
use Rattle.lsl_ports.specs.Trips.{Trip, sent_of}
use Rattle.lsl_ports.proofs.Growth.{begins-after, begins-is, begins-more, begins-none, grew-is, grew-none, grew-then}
use Rattle.lsl_top.specs.Pieces.{Piece, lines_in, sent_in}
use Rattle.lsl_top.specs.Promise.{IsBegun, IsBegunAt, IsWhole}

pub lines_in-append : (xs ys : List Piece) → lines_in (xs ++ ys) ≡ lines_in xs ++ lines_in ys
lines_in-append [] ys = refl
lines_in-append (x ∷ xs) ys =
    ap (λ (z : List ℕ). x.lines ++ z) (lines_in-append xs ys) ∙ sym (append_assoc x.lines (lines_in xs) (lines_in ys))

pub sent_in-append : (xs ys : List Piece) → sent_in (xs ++ ys) ≡ sent_in xs ++ sent_in ys
sent_in-append [] ys = refl
sent_in-append (x ∷ xs) ys =
    ap (λ (z : List (List ℕ)). x.sent ++ z) (sent_in-append xs ys)
    ∙ sym (append_assoc x.sent (sent_in xs) (sent_in ys))

pub sent_of-append : (ts us : List Trip) → sent_of (ts ++ us) ≡ sent_of ts ++ sent_of us
sent_of-append ts us = map-append (λ (t : Trip). t.sent) ts us

-- the first pieces are a prefix of all
take-begins : (n : ℕ) (xs : List Piece) → Begins (lines_in (take n xs)) (lines_in xs)
take-begins zero xs = begins-none (lines_in xs)
take-begins (suc n) [] = begins-none []
take-begins (suc n) (x ∷ xs) =
    begins-after x.lines (lines_in (take n xs)) (lines_in xs) (take-begins n xs)

pub begins-through : {A : Type 0} (xs ys zs : List A) → Begins xs ys → Begins ys zs → Begins xs zs
begins-through xs ys zs b c =
    begins-is xs (ys ++ c.others) zs (begins-more xs ys c.others b) c.whole

-- what was begun grew by a prefix of the whole
pub begun-partly : (xs : List Piece) (ts : List Trip) (a b : Option (List ℕ)) → IsBegun xs ts a b
    → GrewPartly a b (lines_in xs)
begun-partly xs ts a b (done, s) = record {
  added = s.added;
  grew = s.grew;
  begins = begins-through s.added (lines_in (take (suc done) xs)) (lines_in xs) s.part (take-begins (suc done) xs);
}

-- the first pieces send a prefix of what all send
pub sent-begins : (n : ℕ) (xs : List Piece) → Begins (sent_in (take n xs)) (sent_in xs)
sent-begins zero xs = begins-none (sent_in xs)
sent-begins (suc n) [] = begins-none []
sent-begins (suc n) (x ∷ xs) = begins-after x.sent (sent_in (take n xs)) (sent_in xs) (sent-begins n xs)

pub begun-sends : (xs : List Piece) (ts : List Trip) (a b : Option (List ℕ)) → IsBegun xs ts a b
    → Begins (sent_of ts) (sent_in xs)
begun-sends xs ts a b (done, s) =
    begins-through (sent_of ts) (sent_in (take (suc done) xs)) (sent_in xs) s.sent (sent-begins (suc done) xs)

pub whole-none : (a : Option (List ℕ)) → IsWhole [] [] a a
whole-none a = record { written = grew-none a; sent = refl }

pub begun-none : (xs : List Piece) (a : Option (List ℕ)) → 0 < length xs → IsBegunAt 0 xs [] a a
begun-none xs a some = record {
  within = some;
  added = [];
  grew = grew-none a;
  written = begins-none [];
  part = begins-none (lines_in (take 1 xs));
  sent = begins-none (sent_in (take 1 xs));
}

-- one piece, with these lines
module _ (p : Piece) (lines : List ℕ) (ts : List Trip) (a b : Option (List ℕ)) (is : lines ≡ p.lines) where
  pub whole-one : sent_of ts ≡ p.sent → Grew a b lines → IsWhole (p ∷ []) ts a b
  whole-one sent grew = record {
    written = grew-is a b lines (lines_in (p ∷ [])) grew (is ∙ sym (append-nil p.lines));
    sent = sent ∙ sym (append-nil p.sent);
  }

  pub begun-one : Begins (sent_of ts) p.sent → GrewPartly a b lines → IsBegunAt 0 (p ∷ []) ts a b
  begun-one sent part = record {
    within = omega arith;
    added = part.added;
    grew = part.grew;
    written = begins-none part.added;
    part = begins-is part.added lines (lines_in (p ∷ [])) part.begins (is ∙ sym (append-nil p.lines));
    sent = begins-is (sent_of ts) p.sent (sent_in (p ∷ [])) sent (sym (append-nil p.sent));
  }

-- lines that are written before those of a piece
abbrev pub lines_before : List ℕ → Piece → Piece
lines_before lines p = record p { lines = lines ++ p.lines }

module _ (lines : List ℕ) (p : Piece) (ts : List Trip) (a b c : Option (List ℕ)) where
  in-one : lines ++ lines_in (p ∷ []) ≡ lines_in (lines_before lines p ∷ [])
  in-one = sym (append_assoc lines p.lines [])

  pub whole-left : Grew a b lines → IsWhole (p ∷ []) ts b c → IsWhole (lines_before lines p ∷ []) ts a c
  whole-left first rest = record {
    written = grew-is a c (lines ++ lines_in (p ∷ [])) (lines_in (lines_before lines p ∷ []))
        (grew-then a b c lines (lines_in (p ∷ [])) first rest.written) in-one;
    sent = rest.sent;
  }

  pub begun-left : Grew a b lines → (n : ℕ) → n ≡ 0 → IsBegunAt n (p ∷ []) ts b c
      → IsBegunAt 0 (lines_before lines p ∷ []) ts a c
  begun-left first n none rest = go (subst (λ (k : ℕ). IsBegunAt k (p ∷ []) ts b c) none rest)
    where
      go : IsBegunAt 0 (p ∷ []) ts b c → IsBegunAt 0 (lines_before lines p ∷ []) ts a c
      go s = record {
        within = omega arith;
        added = lines ++ s.added;
        grew = grew-then a b c lines s.added first s.grew;
        written = begins-none (lines ++ s.added);
        part = begins-is (lines ++ s.added) (lines ++ lines_in (p ∷ [])) (lines_in (lines_before lines p ∷ []))
            (begins-after lines s.added (lines_in (p ∷ [])) s.part) in-one;
        sent = s.sent;
      }

-- or a prefix of them
pub begun-before : (lines : List ℕ) (p : Piece) (a b : Option (List ℕ)) → GrewPartly a b lines
    → IsBegunAt 0 (lines_before lines p ∷ []) [] a b
begun-before lines p a b part = record {
  within = omega arith;
  added = part.added;
  grew = part.grew;
  written = begins-none part.added;
  part = begins-is part.added (lines ++ lines_in (p ∷ [])) (lines_in (lines_before lines p ∷ []))
      (begins-more part.added lines (lines_in (p ∷ [])) part.begins) (in-one lines p [] a b b);
  sent = begins-none (sent_in (lines_before lines p ∷ []));
}

-- whole pieces, and then others
module _ (xs ys : List Piece) (ts us : List Trip) (a b c : Option (List ℕ)) (first : IsWhole xs ts a b) where
  pub whole-then : IsWhole ys us b c → IsWhole (xs ++ ys) (ts ++ us) a c
  whole-then second = record {
    written = grew-is a c (lines_in xs ++ lines_in ys) (lines_in (xs ++ ys))
        (grew-then a b c (lines_in xs) (lines_in ys) first.written second.written) (sym (lines_in-append xs ys));
    sent = sent_of-append ts us ∙ ap₂ (λ (x y : List (List ℕ)). x ++ y) first.sent second.sent
        ∙ sym (sent_in-append xs ys);
  }

  taken : (n : ℕ) → take (length xs + n) (xs ++ ys) ≡ xs ++ take n ys
  taken n = take-append-add xs ys n

  lines-taken : (n : ℕ) → lines_in (take (length xs + n) (xs ++ ys)) ≡ lines_in xs ++ lines_in (take n ys)
  lines-taken n = ap lines_in (taken n) ∙ lines_in-append xs (take n ys)

  sent-taken : (n : ℕ) → sent_in (take (length xs + n) (xs ++ ys)) ≡ sent_in xs ++ sent_in (take n ys)
  sent-taken n = ap sent_in (taken n) ∙ sent_in-append xs (take n ys)

  pub begun-then : (done : ℕ) → IsBegunAt done ys us b c → IsBegunAt (length xs + done) (xs ++ ys) (ts ++ us) a c
  begun-then done s =
      let next : suc (length xs + done) ≡ length xs + suc done = omega arith in
      let added = lines_in xs ++ s.added in
      let lines = lines_in xs ++ lines_in (take (suc done) ys) in
      let images = sent_in xs ++ sent_in (take (suc done) ys) in
      record {
        within = let within = s.within in omega (arith, length-append xs ys);
        added = added;
        grew = grew-then a b c (lines_in xs) s.added first.written s.grew;
        written = subst (λ (z : List ℕ). Begins z added) (sym (lines-taken done))
            (begins-after (lines_in xs) (lines_in (take done ys)) s.added s.written);
        part = begins-is added lines (lines_in (take (suc (length xs + done)) (xs ++ ys)))
            (begins-after (lines_in xs) s.added (lines_in (take (suc done) ys)) s.part)
            (sym (lines-taken (suc done)) ∙ ap (λ (n : ℕ). lines_in (take n (xs ++ ys))) (sym next));
        sent = subst (λ (z : List (List ℕ)). Begins z (sent_in (take (suc (length xs + done)) (xs ++ ys))))
            (sym (sent_of-append ts us ∙ ap (λ (z : List (List ℕ)). z ++ sent_of us) first.sent))
            (begins-is (sent_in xs ++ sent_of us) images (sent_in (take (suc (length xs + done)) (xs ++ ys)))
            (begins-after (sent_in xs) (sent_of us) (sent_in (take (suc done) ys)) s.sent)
            (sym (sent-taken (suc done)) ∙ ap (λ (n : ℕ). sent_in (take n (xs ++ ys))) (sym next)));
      }

-- pieces that were begun, whatever follows them
pub begun-more : (done : ℕ) (xs ys : List Piece) (ts : List Trip) (a b : Option (List ℕ)) → IsBegunAt done xs ts a b
    → IsBegunAt done (xs ++ ys) ts a b
begun-more done xs ys ts a b s =
    let within = s.within in
    let at : take done (xs ++ ys) ≡ take done xs = take-append-le done xs ys (omega arith) in
    let next : take (suc done) (xs ++ ys) ≡ take (suc done) xs =
    take-append-le (suc done) xs ys (omega arith) in
    record {
      within = omega (arith, length-append xs ys);
      added = s.added;
      grew = s.grew;
      written = subst (λ (z : List Piece). Begins (lines_in z) s.added) (sym at) s.written;
      part = subst (λ (z : List Piece). Begins s.added (lines_in z)) (sym next) s.part;
      sent = subst (λ (z : List Piece). Begins (sent_of ts) (sent_in z)) (sym next) s.sent;
    }
