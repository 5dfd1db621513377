use Rattle.std.proofs.Common.{◌≡◌, ◌∷◌, [], ◌++◌, true, length, ap, sym, subst, ◌∙◌, arith, rules, w32}
use Rattle.std.proofs.lemmas.Int.{to_z-of_z}
use Rattle.std.proofs.lemmas.List.{length-map}
use Rattle.lsl_post.specs.declared.filters.Filter.{Filter}
use Rattle.lsl_post.specs.declared.listen.Listen.{Listen}
use Rattle.lsl_post.specs.Listens.{is_number, listen_of, number_after, standing, Standing, IsStanding}
use Rattle.lsl_post.proofs.Adding.{standing-new}
use Rattle.lsl_post.proofs.listen_table.ListenTable.add_new.Goals as goal

pub push-requires : goal.push-requires
push-requires c =
    standing-new c.args.filter c.args.self.now c.free_number-number.result c.new.result
    (subst IsStanding c.self.view_is c.self.invariant.standing) c.requires
    (omega (
      arith,
      c.if-len-ge-MOST_LISTENS.false,
      c.len.ensures.len,
      length-map c.self.inside.table.entries
          (λ (e : Filter × Listen). e.1),
      ap (λ (s : Standing). length s.list) c.self.view_is,
    ))
    c.free_number-number.ensures.number c.free_number-number.ensures.free
    (c.new.ensures ∙ ap (λ n. listen_of n c.args.filter)
    (to_z-of_z w32 c.free_number-number.result (search rules)))

pub number_after-self-inside-requires : goal.number_after-self-inside-requires
number_after-self-inside-requires c =
    subst (λ n. is_number n ≡ true) (sym (to_z-of_z w32 c.free_number-number.result (search rules)))
    c.free_number-number.ensures.number

pub returns : goal.returns
returns c =
    let number = to_z-of_z w32 c.free_number-number.result (search rules)
    ∙ c.free_number-number.ensures.value in
    let next = to_z-of_z w32 c.number_after-self-inside.result (search rules)
    ∙ c.number_after-self-inside.ensures ∙ ap number_after number in
    let list = ap (λ (s : Standing). s.list) (c.self-2.view_is ∙ c.in_ok-push.ensures.ok)
    ∙ ap (λ (l : Listen). c.args.self.now.list ++ l ∷ [])
    (c.new.ensures ∙ ap (λ n. listen_of n c.args.filter) number) in (
      number,
      (λ i. standing (next i) (list i)),
      omega (
        arith,
        c.if-len-ge-MOST_LISTENS.false,
        c.len.ensures.len,
        length-map
            c.self.inside.table.entries (λ (e : Filter × Listen). e.1),
        ap (λ (s : Standing). length s.list)
            c.self.view_is,
      ),
    )
