-- The result of a drive over a link is its result by its trips.
use Rattle.std.proofs.Common.{◌≡◌, ◌≢◌, ◌∙◌, ◌<◌, ◌≤◌, ◌^◌, ◌⊎◌, inl, inr, refl, ap, ap₂, sym, subst, arith, ℕ, zero, suc, false, List, [], ◌∷◌, ◌++◌, append-nil, append_assoc, length, length-append, Option, Some, None}
use Rattle.std.specs.Prelude.{Contains, IfSome}
use Rattle.lsl_bytes.specs.Fields.{u64_bytes}
use Rattle.lsl_bytes.proofs.NumberLemmas.{length-u64}
use Rattle.lsl_ports.specs.Growth.{Begins}
use Rattle.lsl_ports.specs.Trips.{Trip, sent_of}
use Rattle.lsl_handoff.specs.declared.card.Card.{Card}
use Rattle.lsl_handoff.specs.declared.drive.Way.{Way}
use Rattle.lsl_handoff.specs.declared.note.Note.{Note}
use Rattle.lsl_handoff.specs.declared.note.NoteKind.{NoteKind}
use Rattle.lsl_handoff.specs.declared.note.NoteKind.TheVariants.{Offer, Taken, Cancel, Refused}
use Rattle.lsl_handoff.specs.DriveLaws.{First, AreAtRest, WasHanded, first_with}
use Rattle.lsl_handoff.specs.Drives.{HasWay, Moment, asks, hears, is_offer}
use Rattle.lsl_handoff.specs.Fields.{HasCard, card_at}
use Rattle.lsl_handoff.specs.Handovers.{Drives, HasCounts, IsCut, IsHeard, Passes}
use Rattle.lsl_handoff.specs.NoteBytes.{HasItsParcel, note_bytes, parcel_bytes}
use Rattle.lsl_handoff.specs.NoteLaws.{AreCounts}
use Rattle.lsl_handoff.specs.Notes.{offer_of}
use Rattle.lsl_handoff.proofs.HandoverLemmas.{left, less-hears}
use Rattle.lsl_handoff.proofs.Moving.{IsHeld, Moves}
use Rattle.lsl_handoff.proofs.RestLemmas.{CameOf, OrNote, question-held, trip-moves}
use Rattle.lsl_handoff.proofs.ReceivingLemmas.{has-long}
use Rattle.lsl_world.specs.Lossy.{Driven, WasCarried, WereCarried, bytes_of, driven, driven_on, heard}
use Rattle.lsl_world.proofs.Heard.{AreKnown, IsKnown, heard-handed, heard-is, one-more}
use Rattle.lsl_world.proofs.Landing.{IsAnswerIf, IsBare, asked-is, by_asked, entries-more, hears-answer, onward, rest_by, there, trip-few}
use Rattle.lsl_world.proofs.Spelling.{bytes-long}

-- a note without a parcel, and an offer, are short
parcel-of-bare : (kind : NoteKind) (parcel : List ℕ) → is_offer kind ≡ false → parcel_bytes kind parcel ≡ []
parcel-of-bare Offer parcel e = absurd (cc)
parcel-of-bare Taken parcel e = refl
parcel-of-bare Cancel parcel e = refl
parcel-of-bare Refused parcel e = refl

bare-parcel : (kind : NoteKind) (parcel : List ℕ) → parcel ≡ [] → HasItsParcel kind parcel
bare-parcel Offer parcel e = tt
bare-parcel Taken parcel e = e
bare-parcel Cancel parcel e = e
bare-parcel Refused parcel e = e

bare-passes : (Takes : Note → Type 0) (kind : NoteKind) (note : Note) → is_offer kind ≡ false → Passes Takes kind note
bare-passes Takes Offer note e = absurd (cc)
bare-passes Takes Taken note e = tt
bare-passes Takes Cancel note e = tt
bare-passes Takes Refused note e = tt

bare-short : (note : Note) → is_offer note.kind ≡ false → length (note_bytes note) < 2 ^ 64
bare-short note e =
    omega (arith, bytes-long note, ap length (parcel-of-bare note.kind note.parcel e))

offer-short : (object trip from to : ℕ) (parcel : List ℕ) → length parcel < 2 ^ 63
    → length (note_bytes (offer_of object trip from to parcel)) < 2 ^ 64
offer-short object trip from to parcel short =
    omega (
      arith,
      short,
      bytes-long (offer_of object trip from to parcel),
      length-append (u64_bytes (length parcel)) parcel,
      length-u64 (length parcel),
    )

-- first ones, with one before
begins-one : {A : Type 0} (x : A) (xs all : List A) → Begins xs all → Begins (x ∷ xs) (x ∷ all)
begins-one x xs all b = record { others = b.others; whole = ap (λ ys. x ∷ ys) b.whole }

module _ (objects regions : ℕ) (Takes : Note → Type 0) (ranges : AreCounts objects regions) (way : Way)
    (parcel : List ℕ) (short : length parcel < 2 ^ 63) (start : List (List Card))
    (counts : HasCounts objects regions start) (has : HasWay start way) (apart : way.from ≢ way.to) (place : ℕ → ℕ)
    (rest : AreAtRest start place) (fit : (object region : ℕ) → (card_at start object region).trip < 2 ^ 64) (trip : ℕ)
    (trip_fits : trip < 2 ^ 64) (takes : Takes (offer_of way.object trip way.from way.to parcel)) where
  abbrev Holding : List Note → First → Moment → Type 0
  Holding handed first m = Moves way trip parcel start (Contains handed) first m

  abbrev Known : List Note → Type 0
  Known notes = AreKnown objects regions ranges Takes notes

  -- a note is asked, and what came back for it is heard
  module _ (handed : List Note) (first : First) (m : Moment) (moves : Holding handed first m)
      (answers : IsAnswerIf m.reply) (known : Known handed) (note : Note) (asked : asks way m ≡ Some note) where
    held : IsHeld way trip parcel start m.field first note
    held = question-held way trip parcel start has apart (Contains handed) first m moves m.reply refl note asked

    note-known : IsKnown objects regions ranges Takes note
    note-known =
        go
        (asked-is objects regions ranges way parcel start counts has apart place rest fit trip trip_fits handed first
        m moves
        answers m.reply refl note asked)
      where
        go : IsBare note ⊎ (note ≡ offer_of way.object trip way.from way.to parcel)
            → IsKnown objects regions ranges Takes note
        go (inl bare) = record {
          is = record {
            object = (there objects regions ranges way parcel start counts has apart place rest fit trip trip_fits
                note.object note.from held.from).0;
            trip = trip-few objects regions ranges way parcel start counts has apart place rest fit trip trip_fits
                m.field
                first note held;
            from = (there objects regions ranges way parcel start counts has apart place rest fit trip trip_fits
                note.object note.from held.from).1;
            to = (there objects regions ranges way parcel start counts has apart place rest fit trip trip_fits
                note.object note.to held.to).1;
            parcel = bare-parcel note.kind note.parcel bare.1;
          };
          passes = bare-passes Takes note.kind note bare.0;
          short = bare-short note bare.0;
        }
        go (inr same) = subst (λ (n : Note). IsKnown objects regions ranges Takes n) (sym same) (record {
          is = record {
            object = (there objects regions ranges way parcel start counts has apart place rest fit trip trip_fits
                way.object way.from has.0).0;
            trip = trip_fits;
            from = (there objects regions ranges way parcel start counts has apart place rest fit trip trip_fits
                way.object way.from has.0).1;
            to = (there objects regions ranges way parcel start counts has apart place rest fit trip trip_fits
                way.object way.to has.1).1;
            parcel = tt;
          };
          passes = takes;
          short = offer-short way.object trip way.from way.to parcel short;
        })

    more-known : Known (handed ++ note ∷ [])
    more-known n is = by (one-more handed note n is) where
      by : Contains handed n ⊎ (note ≡ n) → IsKnown objects regions ranges Takes n
      by (inl old) = known n old
      by (inr same) = subst (λ (x : Note). IsKnown objects regions ranges Takes x) same note-known

    came-of : (back : Option Note) → WasHanded (handed ++ note ∷ []) back → CameOf (OrNote (Contains handed) note) back
    came-of None was = tt
    came-of (Some n) was = one-more handed note n was

    is-held : (n : Note) → Contains (handed ++ note ∷ []) n → IsHeld way trip parcel start m.field first n
    is-held n is = by (one-more handed note n is) where
      by : Contains handed n ⊎ (note ≡ n) → IsHeld way trip parcel start m.field first n
      by (inl old) = moves.known n old
      by (inr same) = subst (λ (x : Note). IsHeld way trip parcel start m.field first x) same held

    back-there : (back : Option Note) → WasHanded (handed ++ note ∷ []) back
        → IfSome back (λ n. HasCard m.field n.object n.to)
    back-there None was = tt
    back-there (Some n) was = has-long start m.field moves.long n.object n.to (is-held n was).to

    module _ (bytes : Option (List ℕ)) where
      abbrev back_of : Option Note
      back_of = heard (handed ++ note ∷ []) bytes

      abbrev next : Moment
      next = hears way m back_of

      next-moves : Holding (handed ++ note ∷ []) (first_with way trip first back_of) next
      next-moves =
          let all = (trip-moves way trip parcel start has apart place rest (Contains handed) first m moves
          (record { note = note; back = back_of }) asked
          (came-of back_of (heard-handed (handed ++ note ∷ []) bytes))).0 in
          record {
            long = all.long;
            others = all.others;
            between = all.between;
            known = λ n is. all.known n (one-more handed note n is);
            reply = all.reply;
            landed = all.landed;
          }

      fewer : (most : ℕ) → left way m ≤ suc most → left way next ≤ most
      fewer most few =
          let less = less-hears way start has m
          (onward objects regions ranges way parcel start counts has apart place rest fit trip trip_fits handed first m
          moves) back_of note (back-there back_of (heard-handed (handed ++ note ∷ []) bytes)) asked in
          omega (arith, few, less)

    some-left : 0 < left way m
    some-left =
        let less = less-hears way start has m
        (onward objects regions ranges way parcel start counts has apart place rest fit trip trip_fits handed first m
        moves) None note tt asked in
        omega (arith, less)

  -- a drive to its end
  pub record Follows (handed : List Note) (d : Driven) (last : Moment) (trips : List Trip) : Type 0 where
    pub last_is : d.last ≡ last
    pub sent_is : sent_of trips ≡ bytes_of d.notes
    pub known : Known (handed ++ d.notes)

  follows-last : (handed : List Note) (m last : Moment) (o : Option Note) (most : ℕ) → o ≡ None → m ≡ last
      → Known handed
      → Follows handed (by_asked way most handed m [] o) last []
  follows-last handed m last None most e same known = record {
    last_is = same;
    sent_is = refl;
    known = subst Known (sym (append-nil handed)) known;
  }
  follows-last handed m last (Some note) most e same known = absurd (cc)

  follows-more : (handed : List Note) (m last : Moment) (t : Trip) (trips : List Trip) (note : Note) (o : Option Note)
      (most : ℕ) → o ≡ Some note → t.sent ≡ note_bytes note
      → Follows (handed ++ note ∷ []) (rest_by way most handed m (t ∷ trips) note) last trips
      → Follows handed (by_asked way most handed m (t ∷ trips) o) last (t ∷ trips)
  follows-more handed m last t trips note None most e sent on = absurd (cc)
  follows-more handed m last t trips note (Some n) most e sent on =
      let same : note ≡ n = cc in
      subst (λ (x : Note). Follows handed (driven_on x (rest_by way most handed m (t ∷ trips) x)) last (t ∷ trips)) same
      (record {
        last_is = on.last_is;
        sent_is = ap₂ (λ (x : List ℕ) (xs : List (List ℕ)). x ∷ xs) sent on.sent_is;
        known = subst Known (append_assoc handed (note ∷ []) (rest_by way most handed m (t ∷ trips) note).notes)
            on.known;
      })

  pub follows : (trips : List Trip) (most : ℕ) (handed : List Note) (first : First) (m last : Moment)
      → Holding handed first m → IsAnswerIf m.reply → left way m ≤ most → Known handed
      → WereCarried (bytes_of handed) trips → Drives objects regions Takes way m trips last → asks way last ≡ None
      → Follows handed (driven way most handed m trips) last trips
  unfolding driven
  follows [] zero handed first m last moves answers few known fair drives none =
      follows-last handed m last None 0 refl drives known
  follows [] (suc most) handed first m last moves answers few known fair drives none =
      follows-last handed m last (asks way m) most (ap (asks way) drives ∙ none) drives known
  follows (t ∷ trips) zero handed first m last moves answers few known fair (note, back, asked, sent, is, more) none =
      absurd (omega (arith, few, some-left handed first m moves answers known note asked))
  follows (t ∷ trips) (suc most) handed first m last moves answers few known fair (note, back, asked, sent, is, more)
      none =
      let all = more-known handed first m moves answers known note asked in
      let entries = entries-more handed note t.sent sent in
      let same : heard (handed ++ note ∷ []) t.back ≡ back =
      heard-is objects regions ranges Takes (handed ++ note ∷ []) all t.back back is
      (subst (λ (es : List (List ℕ)). WasCarried es t.back) entries fair.0) in
      follows-more handed m last t trips note (asks way m) most asked sent
      (follows trips most (handed ++ note ∷ [])
      (first_with way trip first (heard (handed ++ note ∷ []) t.back))
      (hears way m (heard (handed ++ note ∷ []) t.back)) last
      (next-moves handed first m moves answers known note asked t.back)
      (hears-answer way m (heard (handed ++ note ∷ []) t.back))
      (fewer handed first m moves answers known note asked t.back most few) all
      (subst (λ (es : List (List ℕ)). WereCarried es trips) entries fair.1)
      (subst (λ (o : Option Note). Drives objects regions Takes way (hears way m o) trips last) (sym same) more) none)

  -- or cut off anywhere
  cut-more : (handed : List Note) (m : Moment) (t : Trip) (trips : List Trip) (note : Note) (o : Option Note) (most : ℕ)
      → o ≡ Some note → t.sent ≡ note_bytes note
      → Begins (sent_of trips) (bytes_of (rest_by way most handed m (t ∷ trips) note).notes)
      → Begins (sent_of (t ∷ trips)) (bytes_of (by_asked way most handed m (t ∷ trips) o).notes)
  cut-more handed m t trips note None most e sent on = absurd (cc)
  cut-more handed m t trips note (Some n) most e sent on =
      let same : note ≡ n = cc in
      subst (λ (x : Note). Begins (sent_of (t ∷ trips))
      (bytes_of (driven_on x (rest_by way most handed m (t ∷ trips) x)).notes)) same
      (subst (λ (z : List ℕ). Begins (z ∷ sent_of trips)
      (note_bytes note ∷ bytes_of (rest_by way most handed m (t ∷ trips) note).notes)) (sym sent)
      (begins-one (note_bytes note) (sent_of trips) (bytes_of (rest_by way most handed m (t ∷ trips) note).notes) on))

  pub follows-cut : (trips : List Trip) (most : ℕ) (handed : List Note) (first : First) (m : Moment)
      → Holding handed first m → IsAnswerIf m.reply → left way m ≤ most → Known handed
      → WereCarried (bytes_of handed) trips → IsCut objects regions Takes way m trips
      → Begins (sent_of trips) (bytes_of (driven way most handed m trips).notes)
  unfolding driven
  follows-cut [] most handed first m moves answers few known fair cut = record {
    others = bytes_of (driven way most handed m []).notes;
    whole = refl;
  }
  follows-cut (t ∷ trips) zero handed first m moves answers few known fair (note, asked, sent, cut) =
      absurd (omega (arith, few, some-left handed first m moves answers known note asked))
  follows-cut (t ∷ trips) (suc most) handed first m moves answers few known fair (note, asked, sent, cut) =
      cut-more handed m t trips note (asks way m) most asked sent
      (go cut
      (λ back is more.
      follows-cut trips most (handed ++ note ∷ [])
      (first_with way trip first (heard (handed ++ note ∷ []) t.back))
      (hears way m (heard (handed ++ note ∷ []) t.back))
      (next-moves handed first m moves answers known note asked t.back)
      (hears-answer way m (heard (handed ++ note ∷ []) t.back))
      (fewer handed first m moves answers known note asked t.back most few)
      (more-known handed first m moves answers known note asked)
      (subst (λ (es : List (List ℕ)). WereCarried es trips) (entries-more handed note t.sent sent) fair.1)
      (subst (λ (o : Option Note). IsCut objects regions Takes way (hears way m o) trips)
      (sym (heard-is objects regions ranges Takes (handed ++ note ∷ [])
      (more-known handed first m moves answers known note asked) t.back back is
      (subst (λ (es : List (List ℕ)). WasCarried es t.back) (entries-more handed note t.sent sent) fair.0))) more)))
    where
      go : (trips ≡ []) ⊎ ((back : Option Note) × IsHeard objects regions Takes t.back back
          × IsCut objects regions Takes way (hears way m back) trips)
          → ((back : Option Note) → IsHeard objects regions Takes t.back back
          → IsCut objects regions Takes way (hears way m back) trips
          → Begins (sent_of trips) (bytes_of (rest_by way most handed m (t ∷ trips) note).notes))
          → Begins (sent_of trips) (bytes_of (rest_by way most handed m (t ∷ trips) note).notes)
      go (inl none) on = record {
        others = bytes_of (rest_by way most handed m (t ∷ trips) note).notes;
        whole = ap (λ (ts : List Trip). sent_of ts ++ bytes_of (rest_by way most handed m (t ∷ trips) note).notes) none;
      }
      go (inr (back, is, more)) on = on back is more
