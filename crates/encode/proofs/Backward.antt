-- From the last step to the first: what the encoder has done when m steps are behind it, at the start, after a step, at the end.
-- Assumes nothing.
use Prim.Native.Nat.{ℕ, zero, suc, ◌+◌, ◌-◌, ◌*◌, ◌%◌, ◌^◌, ◌≤◌, ◌<◌}
use mathlib.Core.Path.{◌≡◌, refl, sym, ap, ap₂, subst, ◌∙◌}
use mathlib.Core.List.{List, ◌∷◌, ◌++◌, map, flatten, append_assoc, append-nil}
use native.Mathlib.Nat.{sub-zero, suc-mul, zero-mul, zero-div}
use native.Mathlib.Numerals.{add-one}
use native.Mathlib.Omega.{arith}
use lib.ListN.{length, get_or, take, replicate}
use lib.Seq.{drop-length}
use lib.Bits.{bit_xor}
use lib.Pow.{pow_pos}
use Rattle.ladder.specs.Lists.{tabulate, joined}
use Rattle.ladder.specs.Numbers.{numbers_of, scalar_words, pack_bits, bytes_for, bits_length}
use Rattle.ladder.specs.Matrix.{Arrangement}
use Rattle.ladder.specs.Encoding.{deal, rearrange, order_to_go, encoded_start, encoded_bits}
use Rattle.ladder.specs.Walk.{bits_of}
use Rattle.ladder.proofs.Lists.{length-joined}
use Rattle.ladder.proofs.Bits.{joined_below}
use Rattle.ladder.proofs.Encoding.{order_to_go_lem, length-encoded_bits, encoded_bits_below}
use Rattle.scalars.specs.Inner.{Fitting, gathered}
use Rattle.encode.specs.declared.packing.Packer.{Packer}
use Rattle.encode.specs.Inner.Order.{ColumnsIn, dealt_by}
use Rattle.encode.specs.Inner.Packing.{bits_in, Open, Put}
use Rattle.encode.proofs.Dealt.{dealt-gathered, arranged_columns}
use Rattle.encode.proofs.Written.{packed}

-- The bits of m steps, the last ones, are written or held, and the filling zeros after them. `ks` are the scalars, E is the end order.
pub record Behind (d l : ℕ) (ks E : List ℕ) (m : ℕ) (order : List ℕ) (p : Packer) (below : ℕ) : Type 0 where
  pub upto : m ≤ l
  pub arranged : take d order ≡ order_to_go l ks E m
  pub bits : below ≡ gathered ks m
  pub left : 8 * p.at ≡ (l - m) * d + p.held
  pub state : Open p
  pub long : length p.bytes.now ≡ bits_length d l
  pub filling : ℕ
  pub written : joined (l - m) (encoded_bits l ks E) ++ bits_in p ≡ joined l (encoded_bits l ks E) ++ replicate filling 0

-- ---- at the start

-- Filling zeros are held as the number 0.
tabulate_zeros : (n : ℕ) (f : ℕ → ℕ) → ((k : ℕ) → f k ≡ 0) → tabulate n f ≡ replicate n 0
unfolding tabulate
tabulate_zeros zero f e = refl
tabulate_zeros (suc n) f e = ap₂ (λ a rest. a ∷ rest) (e zero) (tabulate_zeros n (λ k. f (suc k)) (λ k. e (suc k)))

zero_bits : (n : ℕ) → bits_of n 0 ≡ replicate n 0
unfolding bits_of
zero_bits n = tabulate_zeros n _ (λ k. ap (λ m. m % 2) (zero-div (2 ^ (n - suc k))))

module _ (d l : ℕ) (bytes : List ℕ) (long : length bytes ≡ bits_length d l) where
  -- The bits fit, with fewer than eight to fill.
  pub fitting_bits : l * d ≤ length bytes * 8
  fitting_bits = unfold bits_length bytes_for in omega arith

  pub few_filling : length bytes * 8 - l * d < 8
  few_filling = unfold bits_length bytes_for in omega arith

  pub nothing_behind : (p : Packer) → p.bytes.now ≡ bytes → p.at ≡ length bytes → p.held ≡ length bytes * 8 - l * d → p.fill ≡ 0
      → (ks order : List ℕ) (below : ℕ) → below ≡ gathered ks 0 → Behind d l ks (take d order) 0 order p below
  unfolding order_to_go bits_in flatten
  nothing_behind p same at held fill ks order below e = record {
    upto = omega arith;
    arranged = refl;
    bits = e;
    left = omega (arith, ap (λ n. n * d) (sub-zero l), fitting_bits);
    state = record {
      few = omega (arith, few_filling);
      small = rw fill (pow_pos p.held);
      inside = rw same (omega arith);
    };
    long = ap length same ∙ long;
    filling = p.held;
    written =
        ap₂ (λ n s. joined n (encoded_bits l ks (take d order)) ++ s) (sub-zero l)
        (rw (fill, at, same)
        (ap₂ (λ s t. s ++ flatten (map (bits_of 8) t)) (zero_bits p.held) (drop-length bytes)
        ∙ append-nil (replicate p.held 0)));
  }

-- ---- a step

module _ {d l : ℕ} {words E : List ℕ} (fit : Fitting d l words) (a : Arrangement d E) where
  abbrev ks : List ℕ
  ks = numbers_of d (scalar_words l) words

  module _ {m : ℕ} {order : List ℕ} {p : Packer} {below : ℕ} (b : Behind d l ks E m order p below) where
    -- The order's places hold columns.
    pub columns : ColumnsIn d order
    columns = arranged_columns d order _ fit.shaped.range.d_high b.arranged (order_to_go_lem l ks a m)

    -- The order of all steps is the start order, and all bits are packed.
    pub all_behind_order : l ≤ m → take d order ≡ encoded_start l ks E
    unfolding encoded_start
    all_behind_order h = b.arranged ∙ ap (order_to_go l ks E) (omega (arith, b.upto))

    pub all_behind_bits : l ≤ m → (bytes : List ℕ) → bytes ≡ p.bytes.now → ((i : ℕ) → get_or bytes i 0 < 256)
        → bytes ≡ pack_bits (joined l (encoded_bits l ks E))
    unfolding joined bits_length
    all_behind_bits h bytes same small =
        same ∙ packed p (joined l (encoded_bits l ks E)) b.filling (omega (arith, ends)) (omega (arith, ends))
        (subst (λ n. joined n (encoded_bits l ks E) ++ bits_in p ≡ joined l (encoded_bits l ks E) ++ replicate b.filling 0) none b.written)
        (rw same at small)
        (joined_below 2 l (encoded_bits l ks E) (omega arith) (encoded_bits_below l ks a))
        (b.long ∙ ap bytes_for (sym (length-joined d l (encoded_bits l ks E) (λ s q. length-encoded_bits l ks a s))))
      where
        none : l - m ≡ 0
        none = omega arith

        ends : (8 * p.at ≡ p.held) × (p.held < 8)
        ends = (b.left ∙ ap (λ n. n * d + p.held) none ∙ omega (arith, zero-mul d), b.state.few)

    module _ (more : m < l) where
      -- What is left is the step's d bits and what comes before them.
      next : l - m ≡ suc (l - suc m)
      next = omega arith

      bits_left : (l - m) * d ≡ (l - suc m) * d + d
      bits_left = ap (λ n. n * d) next ∙ suc-mul (l - suc m) d

      module _ (above r : ℕ) (gather : above ≡ gathered ks (m + 1)) (dealing : bits_of d r ≡ dealt_by (bit_xor above below) (take d order)) where
        dealt : bits_of d r ≡ deal l ks (order_to_go l ks E m) (l - suc m)
        dealt =
            dealing
            ∙ ap₂ dealt_by (ap₂ bit_xor (gather ∙ ap (gathered ks) (add-one m)) b.bits) b.arranged
            ∙ dealt-gathered l ks (order_to_go l ks E m) m more
            (λ k h. fit.below (get_or (order_to_go l ks E m) k 0) ((order_to_go_lem l ks a m).inside k (omega (arith, (order_to_go_lem l ks a m).long))))

        encoded : bits_of d r ≡ encoded_bits l ks E (l - suc m)
        unfolding encoded_bits
        encoded = dealt ∙ ap (λ n. deal l ks (order_to_go l ks E n) (l - suc m)) (omega arith)

        pub one_more_behind : (q : Packer) (before : List ℕ) → Put p d r q → take d before ≡ rearrange (take d order) (bits_of d r)
            → Behind d l ks E (m + 1) before q above
        unfolding order_to_go joined
        one_more_behind q before put turned =
            subst (λ n. Behind d l ks E n before q above) (sym (add-one m)) (record {
              upto = more;
              arranged = turned ∙ ap₂ rearrange b.arranged dealt;
              bits = gather ∙ ap (gathered ks) (add-one m);
              left = omega (arith, put.moved, b.left, bits_left);
              state = put.state;
              long = put.long ∙ b.long;
              filling = b.filling;
              written =
                  ap (λ s. joined (l - suc m) (encoded_bits l ks E) ++ s)
                  (put.bits ∙ ap (λ s. s ++ bits_in p) encoded)
                  ∙ sym (append_assoc (joined (l - suc m) (encoded_bits l ks E)) (encoded_bits l ks E (l - suc m)) (bits_in p))
                  ∙ ap (λ n. joined n (encoded_bits l ks E) ++ bits_in p) (sym next)
                  ∙ b.written;
            })
