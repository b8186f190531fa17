use Rattle.std.specs.Prelude.{◌≡◌, ℕ, ◌==◌, ◌↔◌, true}
use Rattle.arena_core.specs.Numbers.{IsWithin, IsWithin-prop, same_made, eq_is_same_number}
use Rattle.arena_ptr.specs.declared.index.inx8.Inx8.{Inx8}
use Rattle.arena_ptr.specs.declared.index.inx16.Inx16.{Inx16}
use Rattle.arena_ptr.specs.declared.index.inx32.Inx32.{Inx32}
use Rattle.arena_ptr.specs.declared.index.inx64.Inx64.{Inx64}

abbrev pub number_of_inx8 : Inx8 → ℕ
number_of_inx8 i = i.number

pub same_inx8 : (i j : Inx8) → number_of_inx8 i ≡ number_of_inx8 j → i ≡ j
same_inx8 i j e =
    same_made {P = IsWithin 0xff} (λ n w. record { number = n; in_range = w }) (IsWithin-prop 0xff) i.number j.number i.in_range j.in_range e

pub eq_is_same_inx8 : (i j : Inx8) → ((i.number == j.number) ≡ true) ↔ (i ≡ j)
eq_is_same_inx8 = eq_is_same_number number_of_inx8 same_inx8

abbrev pub number_of_inx16 : Inx16 → ℕ
number_of_inx16 i = i.number

pub same_inx16 : (i j : Inx16) → number_of_inx16 i ≡ number_of_inx16 j → i ≡ j
same_inx16 i j e =
    same_made {P = IsWithin 0xffff} (λ n w. record { number = n; in_range = w }) (IsWithin-prop 0xffff) i.number j.number i.in_range j.in_range e

pub eq_is_same_inx16 : (i j : Inx16) → ((i.number == j.number) ≡ true) ↔ (i ≡ j)
eq_is_same_inx16 = eq_is_same_number number_of_inx16 same_inx16

abbrev pub number_of_inx32 : Inx32 → ℕ
number_of_inx32 i = i.number

pub same_inx32 : (i j : Inx32) → number_of_inx32 i ≡ number_of_inx32 j → i ≡ j
same_inx32 i j e =
    same_made {P = IsWithin 0xffff_ffff} (λ n w. record { number = n; in_range = w }) (IsWithin-prop 0xffff_ffff) i.number j.number i.in_range j.in_range e

pub eq_is_same_inx32 : (i j : Inx32) → ((i.number == j.number) ≡ true) ↔ (i ≡ j)
eq_is_same_inx32 = eq_is_same_number number_of_inx32 same_inx32

abbrev pub number_of_inx64 : Inx64 → ℕ
number_of_inx64 i = i.number

pub same_inx64 : (i j : Inx64) → number_of_inx64 i ≡ number_of_inx64 j → i ≡ j
same_inx64 i j e =
    same_made {P = IsWithin 0xffff_ffff_ffff_ffff} (λ n w. record { number = n; in_range = w }) (IsWithin-prop 0xffff_ffff_ffff_ffff) i.number j.number i.in_range j.in_range e

pub eq_is_same_inx64 : (i j : Inx64) → ((i.number == j.number) ≡ true) ↔ (i ≡ j)
eq_is_same_inx64 = eq_is_same_number number_of_inx64 same_inx64
