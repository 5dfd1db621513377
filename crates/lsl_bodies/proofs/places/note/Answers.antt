use Rattle.std.proofs.Common.{◌≡◌, ℕ, List, [], ◌∷◌, ◌++◌, Some, None, slice_get, sym, ap, ◌∙◌, subst}
use Rattle.std.proofs.lemmas.List.{append-nil}
use Rattle.std.specs.Option.{option_flatten}
use Rattle.std.specs.HashMap.{get, get_by_text, UpdatesBy}
use Rattle.std.specs.String.{string_bytes, string_eq}
use Rattle.std.specs.Str.{bytes_eq}
use Rattle.lsl_bodies.specs.Places.{text_at, texts_of}
use Rattle.lsl_bodies.proofs.PlaceLemmas.{stands_at, text_of_place, found_text, new_texts, new_stands}
use Rattle.lsl_bodies.proofs.places.note.Goals as goal

pub returns-in-Some-clause-noted : goal.returns-in-Some-clause-noted
returns-in-Some-clause-noted c =
    let m = c.args.table.now in
    let e = c.in-Some.ensures in
    let place = c.in-Some.place in
    let k = c.in-Some.field-0-1.now in
    let v = c.in-Some.latest.now in
    let name : c.args.name.now ≡ string_bytes k = found_text m c.args.name.now k e.key in
    let text : text_at (texts_of m) place ≡ c.args.name.now = text_of_place m place k v e.entry ∙ sym name in
    record {
      hidden = ap option_flatten e.value;
      updates = subst (λ (t : List ℕ). UpdatesBy string_eq (λ q. bytes_eq t (string_bytes q)) m c.set.new.table
          (Some (Some c.args.number))) text c.set.ensures.updates;
      stands = ap (λ (ts : List (List ℕ)). slice_get ts place) c.set.ensures.texts
          ∙ (stands_at m place k v e.entry ∙ ap Some (sym name));
      more = [];
      grows = c.set.ensures.texts ∙ sym (append-nil (texts_of m));
    }

pub returns-in_ok-insert-in-None-clause-noted : goal.returns-in_ok-insert-in-None-clause-noted
returns-in_ok-insert-in-None-clause-noted c =
    let m = c.args.table.now in
    let n = c.insert.new.self in
    let k = c.in_ok-from_str-in-None.field-0 in
    let e = c.in_ok-insert-in-None.ensures in
    let text : string_bytes k ≡ c.args.name.now = c.in_ok-from_str-in-None.ensures.ok in
    let absent = c.in-None.ensures.value in
    let none : get string_eq m k ≡ None = ap (get_by_text m) text ∙ sym absent in
    record {
      hidden = ap option_flatten absent;
      updates = subst (λ (t : List ℕ). UpdatesBy string_eq (λ q. bytes_eq t (string_bytes q)) m n
          (Some (Some c.args.number))) text e.updates;
      stands = new_stands m n k (Some c.args.number) c.len-place.result none e.entries c.len-place.ensures.len
          ∙ ap Some text;
      more = c.args.name.now ∷ [];
      grows = new_texts m n k (Some c.args.number) none e.entries
          ∙ ap (λ (t : List ℕ). texts_of m ++ t ∷ []) text;
    }
