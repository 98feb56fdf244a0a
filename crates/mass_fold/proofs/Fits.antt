-- What `ok_or` answers: the value where there is one, and else that it is too wide.
use Rattle.std.proofs.Common.{◌≡◌, Option, Some, None, Result, Ok, Err, IfSome, IfNone, IfErr, subst, sym}
use Rattle.std.specs.Option.{ok_or}
use Rattle.mass_fold.specs.declared.error.MassError.{MassError}
use Rattle.mass_fold.specs.declared.error.MassError.TheVariants.{TooWide}

pub fits : {T : Type 0} (o p : Option T) (x : T) → o ≡ p → Ok x ≡ ok_or o TooWide → p ≡ Some x
fits None p x a b = cc
fits (Some y) p x a b = cc

pub none_where_wide : {T : Type 0} (o p : Option T) (e : MassError) → o ≡ p → Err e ≡ ok_or o TooWide → p ≡ None
none_where_wide None p e a b = cc
none_where_wide (Some y) p e a b = cc

pub is_wide : {T : Type 0} (o : Option T) (e : MassError) → Err e ≡ ok_or o TooWide → e ≡ TooWide
is_wide None e b = cc
is_wide (Some y) e b = cc

-- an answer of `ok_or` that is returned as it is
pub if_wide : {T : Type 0} (o p : Option T) (r : Result T MassError) (P : MassError → Type 0) → o ≡ p → r ≡ ok_or o TooWide → (p ≡ None → P TooWide) → IfErr r P
if_wide None p r P a b f = subst (λ r. IfErr r P) (sym b) (f (sym a))
if_wide (Some y) p r P a b f = subst (λ r. IfErr r P) (sym b) tt

-- what holds of a value that is there, and where none is
pub some_fits : {T : Type 0} (o : Option T) (x : T) (P : T → Type 0) → IfSome o P → Ok x ≡ ok_or o TooWide → P x
some_fits None x P h b = cc
some_fits (Some y) x P h b = let e : y ≡ x = cc in subst P e h

pub on_wide : {T : Type 0} (o : Option T) (e : MassError) (P : Type 0) → IfNone o P → Err e ≡ ok_or o TooWide → P
on_wide None e P h b = h
on_wide (Some y) e P h b = cc

-- an answer that is returned as it is
pub if_some_as_is : {T : Type 0} (o p : Option T) (P : T → Type 0) → o ≡ p → ((x : T) → p ≡ Some x → P x) → IfSome o P
if_some_as_is None p P a f = tt
if_some_as_is (Some x) p P a f = f x (sym a)

pub if_none_as_is : {T : Type 0} (o p : Option T) (P : Type 0) → o ≡ p → (p ≡ None → P) → IfNone o P
if_none_as_is None p P a f = f (sym a)
if_none_as_is (Some x) p P a f = tt
