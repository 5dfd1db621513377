use Rattle.std.proofs.Common.{◌≡◌, refl, ap}
use Rattle.lsl_value.specs.declared.names.BuiltinId.{BuiltinId}
use Rattle.lsl_value.specs.declared.names.BuiltinId.TheVariants.{GetUsedMemory, GetFreeMemory, SetMemoryLimit, GetMemoryLimit}
use Rattle.lsl_table.specs.Calls.{row_of}
use Rattle.lsl_table.specs.declared.calls.Home.TheVariants as home
use Rattle.lsl_meaning.specs.Calls.{limit_given}
use Rattle.lsl_gen.specs.OwnCalls.{charged}
use Rattle.lsl_gen.proofs.Limits.{granted_within, granted_without}
use Rattle.lsl_gen.proofs.laws.own_calls_are_named.Goals as goal

tells_charge : (id : BuiltinId) → (row_of id).home ≡ home.UsedMemory → id ≡ GetUsedMemory
tells_charge GetUsedMemory e = refl
tells_charge id e = absurd cc

tells_rest : (id : BuiltinId) → (row_of id).home ≡ home.FreeMemory → id ≡ GetFreeMemory
tells_rest GetFreeMemory e = refl
tells_rest id e = absurd cc

sets_limit : (id : BuiltinId) → (row_of id).home ≡ home.SetLimit → id ≡ SetMemoryLimit
sets_limit SetMemoryLimit e = refl
sets_limit id e = absurd cc

tells_limit : (id : BuiltinId) → (row_of id).home ≡ home.GetLimit → id ≡ GetMemoryLimit
tells_limit GetMemoryLimit e = refl
tells_limit id e = absurd cc

pub returns-clause-used : goal.returns-clause-used
returns-clause-used c = (λ routines low line arguments site s. refl, λ line. refl)

pub returns-clause-free : goal.returns-clause-free
returns-clause-free c = (λ routines low line arguments site s. refl, λ line. refl)

pub returns-clause-told : goal.returns-clause-told
returns-clause-told c = (λ routines low line arguments site s. refl, λ line. refl)

pub returns-clause-set : goal.returns-clause-set
returns-clause-set c routines low line n site s low_enough high_enough =
    ap (λ limit. limit_given limit site s) (granted_within n (charged site s) low_enough high_enough)

pub returns-clause-kept : goal.returns-clause-kept
returns-clause-kept c routines low line n site s outside =
    ap (λ limit. limit_given limit site s) (granted_without n (charged site s) outside)

pub returns-clause-code : goal.returns-clause-code
returns-clause-code c line = refl

pub returns-clause-table : goal.returns-clause-table
returns-clause-table c = (
  λ id. (tells_charge id, ap (λ i. (row_of i).home)),
  λ id. (tells_rest id, ap (λ i. (row_of i).home)),
  λ id. (sets_limit id, ap (λ i. (row_of i).home)),
  λ id. (tells_limit id, ap (λ i. (row_of i).home)),
)
