-- Laws of columns rearranged from the last place to the first: those with bit 1 fill an array from its front, those with bit 0
-- from its back.
-- Assumes nothing.
use Prim.Native.Nat.{ℕ, zero, suc, ◌+◌, ◌-◌, ◌/◌, ◌%◌, ◌^◌, ◌≤◌, ◌<◌}
use mathlib.Core.Path.{◌≡◌, refl, sym, ap, ap₂, ◌∙◌}
use mathlib.Core.List.{List, [], ◌∷◌, ◌++◌, reverse, reverse-cons}
use native.Mathlib.Omega.{arith}
use native.Mathlib.Nat.{add-zero}
use lib.ListN.{length, get_or, take, drop, set, length-set, drop_of_length-le, take-append-drop}
use lib.Seq.{take-suc-set, take-set-le, take-set-lt, drop-set-lt, drop-cons, get_or-set_same, get_or-take, length-take-le}
use Rattle.ladder.specs.Encoding.{picked, passed, rearrange}
use Rattle.ladder.specs.Walk.{bits_of}
use Rattle.ladder.proofs.Walk.{length-bits_of, get_or-bits_of}

-- Of d columns S those from place i on are in T: those with bit 1 in its first f places, reversed, those with bit 0 from place f + i on.
pub record Filled (d : ℕ) (S r : List ℕ) (i f : ℕ) (T : List ℕ) : Type 0 where
  pub few : f + i ≤ d
  pub ones : take f T ≡ reverse (picked (drop i S) (drop i r))
  pub zeros : drop (f + i) T ≡ passed (drop i S) (drop i r)

-- ---- a column written to both places

module _ (T : List ℕ) (f i j : ℕ) (room : f + i < length T) where
  abbrev both : List ℕ
  both = set (set T f j) (f + i) j

  in_front : take (suc f) both ≡ take f T ++ (j ∷ [])
  in_front = go i room
    where
      go : (i : ℕ) → f + i < length T → take (suc f) (set (set T f j) (f + i) j) ≡ take f T ++ (j ∷ [])
      go zero h =
          rw (add-zero f)
          (take-suc-set (set T f j) f j (omega (arith, length-set T f j)) ∙ ap (λ s. s ++ (j ∷ [])) (take-set-le f T f j (omega arith)))
      go (suc i) h = take-set-le (suc f) (set T f j) (f + suc i) j (omega arith) ∙ take-suc-set T f j (omega arith)

  front_kept : take f both ≡ take f T
  front_kept = take-set-le f (set T f j) (f + i) j (omega arith) ∙ take-set-le f T f j (omega arith)

  back_kept : drop (suc (f + i)) both ≡ drop (suc (f + i)) T
  back_kept =
      drop-set-lt (suc (f + i)) (set T f j) (f + i) j (omega arith) ∙ drop-set-lt (suc (f + i)) T f j (omega arith)

  at_back : drop (f + i) both ≡ j ∷ drop (suc (f + i)) T
  at_back =
      drop-cons both (f + i) 0 (omega (arith, length-set T f j, length-set (set T f j) (f + i) j))
      ∙ ap₂ (λ a s. a ∷ s) (get_or-set_same (set T f j) (f + i) j 0 (omega (arith, length-set T f j))) back_kept

  ones_more : (S r : List ℕ) (b : ℕ) → b < 2 → take f T ≡ reverse (picked S r)
      → take (f + b) both ≡ reverse (picked (j ∷ S) (b ∷ r))
  unfolding picked
  ones_more S r zero h e = rw (add-zero f) (front_kept ∙ e)
  ones_more S r (suc zero) h e =
      let one : f + 1 ≡ suc f = omega arith in
      rw one (in_front ∙ ap (λ s. s ++ (j ∷ [])) e ∙ sym (reverse-cons j (picked S r)))
  ones_more S r (suc (suc b)) h e = absurd (omega arith)

  zeros_more : (S r : List ℕ) (b : ℕ) → b < 2 → drop (suc (f + i)) T ≡ passed S r
      → drop (f + b + i) both ≡ passed (j ∷ S) (b ∷ r)
  unfolding passed
  zeros_more S r zero h e = rw (add-zero f) (at_back ∙ ap (λ s. j ∷ s) e)
  zeros_more S r (suc zero) h e =
      let one : f + 1 + i ≡ suc (f + i) = omega arith in
      rw one (back_kept ∙ e)
  zeros_more S r (suc (suc b)) h e = absurd (omega arith)

-- ---- the pass

module _ (order : List ℕ) (d r : ℕ) (wide : d ≤ length order) where
  abbrev S : List ℕ
  S = take d order

  abbrev B : List ℕ
  B = bits_of d r

  long : length S ≡ d
  long = length-take-le d order wide

  -- At the start no column is in T ..
  pub nothing_filled : (T : List ℕ) → length T ≡ d → Filled d S B d 0 T
  unfolding picked passed
  nothing_filled T e = record {
    few = omega arith;
    ones = rw none_left refl;
    zeros = rw none_left (drop_of_length-le T {i = 0 + d} (omega arith));
  }
    where
      none_left : drop d S ≡ []
      none_left = drop_of_length-le S {i = d} (omega (arith, long))

  -- .. a turn puts the column before those that are in it to both places, and counts its bit ..
  pub one_more_filled : (out : List ℕ) (left i f : ℕ) → suc i ≡ left → left ≤ d → d ≤ length out → Filled d S B left f (take d out)
      → Filled d S B i (f + r / 2 ^ (d - 1 - i) % 2) (take d (set (set out f (get_or order i 0)) (f + i) (get_or order i 0)))
  one_more_filled out left i f from inside room t = record {
    few = omega (arith, t.few);
    ones = rw (stored, cut_S, cut_B) (ones_more T f i j (omega (arith, t.few, tall)) (drop left S) (drop left B) b (omega arith) t.ones);
    zeros = rw (stored, cut_S, cut_B) (zeros_more T f i j (omega (arith, t.few, tall)) (drop left S) (drop left B) b (omega arith) (rw next t.zeros));
  }
    where
      T : List ℕ
      T = take d out

      j : ℕ
      j = get_or order i 0

      b : ℕ
      b = r / 2 ^ (d - 1 - i) % 2

      tall : length T ≡ d
      tall = length-take-le d out room

      stored : take d (set (set out f j) (f + i) j) ≡ set (set T f j) (f + i) j
      stored =
          take-set-lt d (set out f j) (f + i) j (omega (arith, t.few))
          ∙ ap (λ s. set s (f + i) j) (take-set-lt d out f j (omega (arith, t.few)))

      next : suc (f + i) ≡ f + left
      next = omega arith

      cut_S : drop i S ≡ j ∷ drop left S
      cut_S =
          drop-cons S i 0 (omega (arith, long))
          ∙ ap₂ (λ a m. a ∷ drop m S) (get_or-take d order i 0 (omega arith)) from

      cut_B : drop i B ≡ b ∷ drop left B
      cut_B =
          drop-cons B i 0 (omega (arith, length-bits_of d r))
          ∙ ap₂ (λ a m. a ∷ drop m B) (get_or-bits_of d r i (omega arith) ∙ ap (λ m. r / 2 ^ m % 2) (omega arith)) from

  -- .. and at the end T is the columns rearranged.
  pub all-filled : (f : ℕ) (T : List ℕ) → Filled d S B 0 f T → T ≡ rearrange S B
  unfolding rearrange
  all-filled f T t =
      sym (take-append-drop f T) ∙ ap₂ (λ s z. s ++ z) t.ones (rw (add-zero f) at t.zeros)
