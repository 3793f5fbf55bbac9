-- `cases::scan::after` meets its contract: what is given is a rest of the text. Assumes nothing.
use Rattle.std.proofs.Common.{◌≡◌, ◌≢◌, ◌∙◌, ℕ, ◌⊎◌, List, [], ◌∷◌, ◌++◌, All, append_assoc, append-nil, ap, rules, sym, ⊎_elim}
use Rattle.cases.proofs.scan.after.Goals as goal

-- nothing is a rest of a text, and so is what stands behind a byte
rest_of : (text behind : List ℕ) (byte : ℕ)
    → (All (λ b. b ≢ byte) text × (behind ≡ [])) ⊎ ((before : List ℕ) × All (λ b. b ≢ byte) before × (text ≡ before ++ byte ∷ behind))
    → (before : List ℕ) × (text ≡ before ++ behind)
rest_of text behind byte =
    ⊎_elim (λ h. (text, sym (append-nil text) ∙ ap (λ b. text ++ b) (sym h.1)))
    (λ h. (h.0 ++ byte ∷ [], h.2 ∙ sym (append_assoc h.0 (byte ∷ []) behind)))

pub returns-clause-rest : goal.returns-clause-rest
returns-clause-rest c = rest_of c.args.text.now c.map_or.result.now c.args.byte (search rules)
