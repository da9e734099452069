-- The loop over the words: how many of those passed are counted, and how many of these are survived.
use Rattle.std.specs.Prelude.{◌≡◌, true, false, ℕ, ◌+◌, ◌-◌, ◌^◌, ◌<◌, ◌≤◌, length}
use Rattle.std.proofs.Common.{sym, ◌∙◌, arith, eq-eqb, ne_eqb}
use Rattle.protocol.specs.Parts.{Job}
use Rattle.arrays.specs.Loops.{tally, tally_hit, tally_miss, tally_end}
use Rattle.crashsets.specs.{CrashSets.{has_size, survives, total, survived}, Words.{set_of, size_ones, is_counted, is_survived, total_words, survived_words}}
use Rattle.std.specs.Int.Count.{ones}

module _ (j : Job) (f : ℕ) where
  abbrev words : ℕ
  words = 2 ^ j.machines

  -- those below w are passed: a are counted, of which b are survived
  pub record Passed (w a b : ℕ) : Type 0 where
    pub within : w ≤ words
    pub counted : a + tally (is_counted j f) (words - w) w ≡ total j f
    pub good : b + tally (is_survived j f) (words - w) w ≡ survived j f
    pub few : a ≤ w
    pub fewer : b ≤ w

  pub none_passed : Passed 0 0 0
  none_passed =
      let z : words - 0 ≡ words = omega arith in
      record { within = omega arith; counted = rw z (omega (arith, total_words j f)); good = rw z (omega (arith, survived_words j f)); few = omega arith; fewer = omega arith }

  module _ (w a b : ℕ) (p : Passed w a b) where
    pub all_passed : words ≤ w → (a ≡ total j f) × (b ≡ survived j f)
    all_passed h = (tally_end (is_counted j f) words w a (total j f) p.counted h, tally_end (is_survived j f) words w b (survived j f) p.good h)

    module _ (h : w < words) where
      size : length (set_of j.machines w) ≡ ones w
      size = size_ones j.machines w h

      -- a set of another size
      pub other_size : (ones w ≡ f → ⊥) → Passed (w + 1) a b
      unfolding has_size
      other_size n =
          let no : is_counted j f w ≡ false = ne_eqb _ f (λ e. n (sym size ∙ e)) in
          record {
            within = omega arith;
            counted = tally_miss (is_counted j f) words w a (total j f) p.counted h no;
            good = tally_miss (is_survived j f) words w b (survived j f) p.good h (rw no);
            few = omega (arith, p.few);
            fewer = omega (arith, p.fewer);
          }

      module _ (e : ones w ≡ f) where
        yes : is_counted j f w ≡ true
        unfolding has_size
        yes = eq-eqb _ f (size ∙ e)

        pub one_survived : survives j (set_of j.machines w) ≡ true → Passed (w + 1) (a + 1) (b + 1)
        one_survived s = record {
          within = omega arith;
          counted = tally_hit (is_counted j f) words w a (total j f) p.counted h yes;
          good = tally_hit (is_survived j f) words w b (survived j f) p.good h (rw (yes, s));
          few = omega (arith, p.few);
          fewer = omega (arith, p.fewer);
        }

        pub one_lost : survives j (set_of j.machines w) ≡ false → Passed (w + 1) (a + 1) b
        one_lost s = record {
          within = omega arith;
          counted = tally_hit (is_counted j f) words w a (total j f) p.counted h yes;
          good = tally_miss (is_survived j f) words w b (survived j f) p.good h (rw (yes, s));
          few = omega (arith, p.few);
          fewer = omega (arith, p.fewer);
        }
