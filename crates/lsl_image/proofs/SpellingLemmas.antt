-- What is spelled is read, and what is read is spelled.
use Rattle.std.proofs.Common.{◌∙◌, sym, ap, refl, subst, arith, ℕ, ◌+◌, ◌≤◌, List, [], ◌++◌, length, drop, length-append, append_assoc}
use Rattle.lsl_bytes.specs.Places.{StandsAt}
use Rattle.lsl_bytes.proofs.PlaceLemmas.{stands-front, stands-rest}
use Rattle.lsl_image.specs.Layout.{Layout, Ends, Refused, Here, Field, bytes_of}
use Rattle.lsl_image.specs.Reading.{Gives}
use Rattle.lsl_image.specs.Spelling.{Spells}

-- bytes that spell something at their place give it there
pub spelled-gives : {A : Type 0} (bytes : List ℕ) (layout : Layout A) (place : ℕ) (a : A) (part : List ℕ)
    (next : ℕ) → StandsAt bytes place part next → Spells layout place a part → Gives bytes layout place a next
spelled-gives bytes (Ends b) place a part next stands spells =
    (spells.0, omega (arith, stands.behind, ap length spells.1))
spelled-gives bytes (Refused fault) place a part next stands spells = spells
spelled-gives bytes (Here more) place a part next stands spells =
    spelled-gives bytes (more place) place a part next stands spells
spelled-gives bytes (Field form more) place a part next stands spells =
    let whole : StandsAt bytes place (bytes_of form spells.0 ++ spells.1) next =
    subst (λ (t : List ℕ). StandsAt bytes place t next) spells.3 stands in (
      spells.0,
      place + length (bytes_of form spells.0),
      (spells.2, stands-front bytes (bytes_of form spells.0) spells.1 place next whole),
      spelled-gives bytes (more spells.0) (place + length (bytes_of form spells.0)) a spells.1 next
          (stands-rest bytes (bytes_of form spells.0) spells.1 place next whole) spells.4,
    )

-- what is given is spelled by the bytes there
pub record IsSpelled {A : Type 0} (bytes : List ℕ) (layout : Layout A) (place : ℕ) (a : A) (next : ℕ) : Type 0 where
  pub part : List ℕ
  pub stands : StandsAt bytes place part next
  pub spells : Spells layout place a part

pub given-spelled : {A : Type 0} (bytes : List ℕ) (layout : Layout A) (place : ℕ) (a : A) (next : ℕ)
    → place ≤ length bytes → Gives bytes layout place a next → IsSpelled bytes layout place a next
given-spelled bytes (Ends b) place a next inside gives = record {
  part = [];
  stands = record {
    parts = ap (λ (n : ℕ). drop n bytes) (sym gives.1);
    behind =
        omega (arith, gives.1);
    within = omega (arith, gives.1);
  };
  spells = (gives.0, refl);
}
given-spelled bytes (Refused fault) place a next inside gives = absurd gives
given-spelled bytes (Here more) place a next inside gives =
    let spelled = given-spelled bytes (more place) place a next inside gives in
    record { part = spelled.part; stands = spelled.stands; spells = spelled.spells }
given-spelled {A} bytes (Field form more) place a next inside gives =
    let stands = gives.2.1 in
    let others = given-spelled bytes (more gives.0) gives.1 a next stands.within gives.3 in
    record {
      part = bytes_of form gives.0 ++ others.part;
      stands = record {
        parts = stands.parts ∙ ap (λ (t : List ℕ). bytes_of form gives.0 ++ t) others.stands.parts
            ∙ sym (append_assoc (bytes_of form gives.0) others.part (drop next bytes));
        behind = omega (arith, stands.behind, others.stands.behind, length-append (bytes_of form gives.0) others.part);
        within = others.stands.within;
      };
      spells = (
        gives.0,
        others.part,
        gives.2.0,
        refl,
        subst (λ (n : ℕ). Spells (more gives.0) n a others.part) stands.behind others.spells,
      );
    }
