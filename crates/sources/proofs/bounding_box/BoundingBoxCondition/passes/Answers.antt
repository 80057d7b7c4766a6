use Rattle.std.proofs.Common.{rules, tests, ◌≡◌, ◌&&◌, true, false, pos, sym, ap, ◌∙◌, w16, to_z, of_z}
use Rattle.std.specs.Prelude.{int_le}
use Rattle.std.proofs.lemmas.Bool.{false≢true}
use Rattle.shapes.specs.Entries.{entry_values}
use Rattle.sources.specs.Conditions.{extent as extent_of}
use Rattle.sources.proofs.bounding_box.BoundingBoxCondition.passes.Goals as goal
use Rattle.sources.proofs.bounding_box.BoundingBoxCondition.passes.Goals.{then-extent-from, else-extent-from}

pub returns-then-extent-from-2 : goal.returns-then-extent-from-2
returns-then-extent-from-2 c =
    let s = (entry_values c.args.entry.now).cells in
    let wide : c.extent.result ≡ extent_of (λ x. x.a) s = c.extent.ensures (λ x. x.a) (λ x z p. search (rules, tests)) in
    let deep : c.extent-then-extent-from-2.result ≡ extent_of (λ x. x.c) s = c.extent-then-extent-from-2.ensures (λ x. x.c) (λ x z p. search (rules, tests)) in
    let d = int_le c.extent-then-extent-from-2.result (pos c.args.self.now.d) in
    let last : int_le (to_z w16 (of_z w16 c.extent-then-extent-from-2.result)) (to_z w16 (of_z w16 c.from-then-extent-from-2.result)) ≡ d = search rules in
    elim c.if-extent-from.branch [
      | then-extent-from w ↦
          let high : w.extent-then-extent-from.result ≡ extent_of (λ x. x.b) s = w.extent-then-extent-from.ensures (λ x. x.b) (λ x z p. search (rules, tests)) in
          let h = int_le w.extent-then-extent-from.result (pos c.args.self.now.h) in
          let fits_a : int_le c.extent.result (pos c.args.self.now.w) ≡ true = search (rules, w.if-extent-from.true) in
          let fits_b : h ≡ true = search (rules, w.value-is, c.if-extent-from-2.true) in
          rw (← wide, ← high, ← deep) (last ∙ sym (ap (λ t. t && (h && d)) fits_a ∙ ap (λ t. t && d) fits_b))
      | else-extent-from w ↦ absurd (false≢true (sym w.if-extent-from.false ∙ sym w.value-is ∙ c.if-extent-from-2.true))
    ]

pub returns-else-extent-from-2 : goal.returns-else-extent-from-2
returns-else-extent-from-2 c =
    let s = (entry_values c.args.entry.now).cells in
    let wide : c.extent.result ≡ extent_of (λ x. x.a) s = c.extent.ensures (λ x. x.a) (λ x z p. search (rules, tests)) in
    elim c.if-extent-from.branch [
      | then-extent-from w ↦
          let high : w.extent-then-extent-from.result ≡ extent_of (λ x. x.b) s = w.extent-then-extent-from.ensures (λ x. x.b) (λ x z p. search (rules, tests)) in
          let fits_a : int_le c.extent.result (pos c.args.self.now.w) ≡ true = search (rules, w.if-extent-from.true) in
          let fits_b : int_le w.extent-then-extent-from.result (pos c.args.self.now.h) ≡ false = search (rules, w.value-is, c.if-extent-from-2.false) in
          search (rules, wide, high, fits_a, fits_b)
      | else-extent-from w ↦
          let fits_a : int_le c.extent.result (pos c.args.self.now.w) ≡ false = search (rules, w.if-extent-from.false) in
          search (rules, wide, fits_a)
    ]
