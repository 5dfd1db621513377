-- What the proofs by hand of `src/taken.rt` share: the words that they cite, and the empty struct. Assumes `Logic`.
pub use Rattle.std.proofs.Common.{List, [], ◌∷◌, ◌++◌, refl}
pub use seplogic.Ra.Ura.{Ura}
pub use mir.Syntax.{Fn}
pub use mir.Val.{Val, vptr, vstruct, vnil}
pub use base.Logic.{SProp, ent}
pub use prog.Memory.{Memory}
pub use prog.Routine.{Routine}
pub use prog.Wp.{Calls, Loops, WpFn, Tables}
pub use contract.Monad.{Fun}
pub use contract.Running.{tables}
pub use sound.WpLaws.{WpFn-mono}
pub use types.Logic.{Logic}
pub use types.Kit.{Goal, Step, step, Item, ‵, raw, ◌⊛◌, prop, ◌$◌, ◌∵◌, !, qed, move, keep, drop, done}
pub use types.Kit.{split, fsplit, fjoin, fpack, feq_i, feq_l, regoal, suffices}
pub use types.Part.{agg}
pub use types.Run.{enter, returns, no_more}
pub use types.ByLocal.{alloc_all, pass_all, free_all, look_at, sets}
pub use denote.Exit.{yes}
pub use denote.RattleType.{RattleType, Valss, owns}
pub use denote.Builtin.{RefOf}
pub use denote.Signature.{plain, types_at, named_lft}
pub use denote.Steps.{nothing}
pub use denote.Struct.Struct.{Struct, within}
pub use denote.Triple.Clauses.{Clauses, Ended, closing}
pub use denote.Triple.Entry.{alive}
pub use denote.Triple.Spec.{Meets, triple_of}
pub use denote.Triple.Table.{entered}
pub use denote.Triple.Walked.{says, Stays, stay_dropped, walk_of, ends_at, walk_Meets, Goes-dropped}

abbrev pub none : Val
none = vstruct vnil

abbrev pub fieldless : RattleType
fieldless = Struct (record { name = []; args = []; types = []; fields = [] })

module _ {M : Type 1} {𝓤 : Ura M} {𝓛 : Logic 𝓤} {K : Type 0} {Γ : List (Item 𝓤)} {G : Goal 𝓤 𝓛.H} where
  pub none_made : K → Step K 𝓛 (‵ (fieldless.own_val tt (none ∷ [])) ∷ Γ) G Γ G
  none_made t = step (λ s.
      nothing t $ feq_i t (List Val) (none ∷ []) (none ∷ []) refl $ fjoin t $
      fpack t (Valss []) (within (record { name = []; args = []; types = []; fields = [] }) tt (none ∷ [])) tt $ s)
