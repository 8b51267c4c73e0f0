-- Tests joined by &&, || and not, taken apart and put together. Assumes nothing.
use mathlib.Core.Path.{◌≡◌, refl, sym, ◌∙◌, subst}
use mathlib.Core.Bool.{Bool, true, false, ◌&&◌, ◌||◌, not, true≢false}
use mathlib.Core.Logic.{◌⊎◌, inl, inr}
use lib.Dec.{T}

pub or_cases : (a b : Bool) → T (a || b) → T a ⊎ T b
or_cases true b t = inl tt
or_cases false b t = inr t

pub or_left : (a b : Bool) → T a → T (a || b)
or_left true b t = tt
or_left false b t = absurd t

pub or_right : (a b : Bool) → T b → T (a || b)
or_right true b t = tt
or_right false b t = t

pub and_both : (a b : Bool) → T (a && b) → T a × T b
and_both true b t = (tt, t)
and_both false b t = absurd t

pub both_and : (a b : Bool) → T a → T b → T (a && b)
both_and true b s t = t
both_and false b s t = s

pub is_true : (c : Bool) → c ≡ true → T c
is_true c e = subst T (sym e) tt

pub is_false : (c : Bool) → c ≡ false → T (not c)
is_false c e = subst (λ (z : Bool). T (not z)) (sym e) tt

pub T_true : (c : Bool) → T c → c ≡ true
T_true true t = refl
T_true false t = absurd t

pub not_T_false : (c : Bool) → (T c → ⊥) → c ≡ false
not_T_false true h = absurd (h tt)
not_T_false false h = refl

pub clash : {X : Type 0} {c : Bool} → c ≡ true → c ≡ false → X
clash e d = absurd (true≢false (sym e ∙ d))

-- two tests that pass together are equal
pub same_test : (a b : Bool) → (T a → T b) → (T b → T a) → a ≡ b
same_test true true f g = refl
same_test true false f g = absurd (f tt)
same_test false true f g = absurd (g tt)
same_test false false f g = refl
