use Rattle.std.proofs.Common.{◌∙◌, sym, inl, inr, true≢false}
use Rattle.reqtable_compare.proofs.Likeness.{names_are, names_same, same_flags}
use Rattle.reqtable_compare.proofs.summary.Summary.is_alike.Goals as goal

pub returns-then-eq : goal.returns-then-eq
returns-then-eq c = (
  λ t. inr (record {
    some = c.if-not-self.false;
    other = c.if-not-other.false;
    extras = names_are c.args.self.now.extras.items c.args.other.now.extras.items (sym c.eq.ensures ∙ c.if-eq.true);
    range = c.is_same_range.ensures.0 t;
    prerelease = same_flags c.args.self.now.prerelease c.args.other.now.prerelease c.if-self-other.false;
  }),
  λ h. elim h [
    | inl none ↦ absurd (true≢false (sym c.if-not-self.false ∙ none.0))
    | inr both ↦ c.is_same_range.ensures.1 both.range
  ],
)

pub returns-else-eq : goal.returns-else-eq
returns-else-eq c = (
  λ t. absurd (true≢false (sym t ∙ c.if-eq.false)),
  λ h. elim h [
    | inl none ↦ absurd (true≢false (sym c.if-not-self.false ∙ none.0))
    | inr both ↦ c.eq.ensures ∙ names_same c.args.self.now.extras.items c.args.other.now.extras.items both.extras
  ],
)
