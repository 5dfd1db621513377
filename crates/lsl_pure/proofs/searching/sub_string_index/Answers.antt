use Rattle.std.proofs.Common.{◌∙◌, ◌<◌, ◌^◌, length, ap, sym, take, arith}
use Rattle.std.specs.List.{count_by}
use Rattle.std.specs.Str.{encode_utf8_all}
use Rattle.std.proofs.lemmas.List.{length-take}
use Rattle.std.proofs.lemmas.List.Sums.{count_by-le-length}
use Rattle.lsl_pure.specs.Spelling.{is_lead}
use Rattle.lsl_pure.proofs.SearchLemmas.{index_some, index_none}
use Rattle.lsl_pure.proofs.searching.sub_string_index.Goals as goal

pub count_before-requires : goal.count_before-requires
count_before-requires c = omega (arith, ap length c.bytes.ensures.value, c.in-Some.ensures.within)

pub returns-in-Some : goal.returns-in-Some
returns-in-Some c =
    let front = take c.in-Some.at (encode_utf8_all c.args.text.now) in
    let few : c.count_before.result < 2 ^ 31 =
    omega (
      arith,
      c.count_before.ensures,
      count_by-le-length is_lead front,
      length-take c.in-Some.at (encode_utf8_all c.args.text.now),
      ap length c.bytes.ensures.value,
      c.bytes.ensures.valid.within,
    ) in
    index_some c.args.text.now c.args.sought.now c.bytes.result.now c.bytes-2.result.now c.in-Some.at
    c.count_before.result c.bytes.ensures.value c.bytes-2.ensures.value
    c.in-Some.ensures.first
    (c.count_before.ensures ∙ ap (λ b. count_by is_lead (take c.in-Some.at b)) (sym c.bytes.ensures.value)) few

pub returns-in-None : goal.returns-in-None
returns-in-None c =
    index_none c.args.text.now c.args.sought.now c.bytes.result.now c.bytes-2.result.now
    c.bytes.ensures.value c.bytes-2.ensures.value c.in-None.ensures.first
