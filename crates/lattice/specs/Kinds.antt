-- Kinds, by number, and the sets of motions that they use. Assumes nothing.
--     kind_number k                the number of the kind k
--     numbered_kind n              the kind with the number n, or the refusal 2
--     kind_name k                  the bytes of the word for the kind k
--     named_kind bs                the kind whose word is bs, or the refusal 2
--     uses k os g                  the kind k uses motion g: fixed only motion 0, one-sided those of the one-sided set os, free all
--     kind_motions ms os k         the numbers of the motions that k uses, ascending
--     numbered_motions ms os n     those of the kind with the number n, or the refusal 2
--     Closed ms gs                 gs are ascending numbers of motions of ms, with 0 among them and "g after h" with g and h
--     set_motions s                the numbers in the set s
use Rattle.std.specs.Prelude.{ℕ, zero, suc, ◌<◌, Bool, true, cond, List, [], ◌∷◌, length, Ok, Err, codes, filter, Result, ◌==◌, nat_lt}
use Rattle.std.specs.List.{range_with_len}
use Rattle.std.specs.Str.{bytes_eq}
use Rattle.ordered.specs.Items.{items_of}
use Rattle.ordered.specs.Members.{In}
use Rattle.ordered.specs.Orders.{Ascending}
use Rattle.lattice.specs.declared.kind.Kind.{Kind}
use Rattle.lattice.specs.declared.kind.Kind.TheVariants.{Fixed, OneSided, Free}
use Rattle.lattice.specs.declared.motion_set.MotionSet.{MotionSet}
use Rattle.lattice.specs.Matrices.{Matrix}
use Rattle.lattice.specs.Lattices.{number_after}

abbrev pub kind_number : Kind → ℕ
kind_number Fixed = 0
kind_number OneSided = 1
kind_number Free = 2

abbrev pub numbered_kind : ℕ → Result Kind ℕ
numbered_kind zero = Ok Fixed
numbered_kind (suc zero) = Ok OneSided
numbered_kind (suc (suc zero)) = Ok Free
numbered_kind (suc (suc (suc n))) = Err 2

abbrev pub kind_name : Kind → List ℕ
kind_name Fixed = codes "fixed"
kind_name OneSided = codes "one-sided"
kind_name Free = codes "free"

-- the first of the kinds ks whose word is bs
abbrev pub kind_among : List Kind → List ℕ → Result Kind ℕ
kind_among [] bs = Err 2
kind_among (k ∷ ks) bs = cond (bytes_eq bs (kind_name k)) (Ok k) (kind_among ks bs)

abbrev pub named_kind : List ℕ → Result Kind ℕ
named_kind bs = kind_among (Fixed ∷ OneSided ∷ Free ∷ []) bs

abbrev pub uses : Kind → (ℕ → Bool) → ℕ → Bool
uses Fixed os g = g == 0
uses OneSided os g = os g
uses Free os g = true

abbrev pub kind_motions : List Matrix → (ℕ → Bool) → Kind → List ℕ
kind_motions ms os k = filter (uses k os) (range_with_len 0 (length ms))

abbrev pub motions_or_refusal : List Matrix → (ℕ → Bool) → Result Kind ℕ → Result (List ℕ) ℕ
motions_or_refusal ms os (Ok k) = Ok (kind_motions ms os k)
motions_or_refusal ms os (Err e) = Err e

abbrev pub numbered_motions : List Matrix → (ℕ → Bool) → ℕ → Result (List ℕ) ℕ
numbered_motions ms os n = motions_or_refusal ms os (numbered_kind n)

pub record Closed (ms : List Matrix) (gs : List ℕ) : Type 0 where
  pub ascending : Ascending nat_lt gs
  pub within : (g : ℕ) → In g gs → g < length ms
  pub has_0 : In 0 gs
  pub after : (g h : ℕ) → In g gs → In h gs → In (number_after ms g h) gs

abbrev pub set_motions : MotionSet → List ℕ
set_motions s = items_of s.motions
