-- Of two groups in conflict the one that is on stays, and the other one never starts.
use Rattle.std.proofs.Common.{◌≡◌, ℕ, ◌+◌, ◌-◌, true, false, Option, Some, None, is_some, refl, arith, sym, inl, inr, ap, ◌∙◌, length}
use Rattle.std.proofs.lemmas.Bool.{cases_Bool}
use Rattle.sig_types.specs.Turns.{is_on}
use Rattle.sig_response.specs.Laws.{FirstStays}
use Rattle.sig_response.specs.Onward.{onward, shows}
use Rattle.sig_response.proofs.Onwards.{Begun, onward-begun, at, stays_on}
use Rattle.sig_response.proofs.Whole.{begun_of, last_of}

pub first_stays : FirstStays
unfolding onward
first_stays r h w g i n site is safe lt lt' pair on green = (stays, never (r.between g i) refl)
  where
    begun : Begun r h (length h - 1)
    begun = begun_of r h site is safe

    there : Begun r (onward r h w n) (length h - 1 + n)
    there = onward-begun r h w (length h - 1) n begun

    first : is_on (at r h w (length h - 1) g 0) ≡ true
    first = ap is_on (sym (last_of r h w g 0 is)) ∙ on

    stays : is_on (shows (onward r h w n) g) ≡ true
    stays = ap is_on (last_of r h w g n is) ∙ stays_on r h w (length h - 1) g 0 n begun lt (omega arith) (λ k lo hi. green k hi) first

    never : (o : Option ℕ) → r.between g i ≡ o → is_on (shows (onward r h w n) i) ≡ false
    never None none = absurd (let no_pair : is_some (r.between g i) ≡ false = ap is_some none in let clash : true ≡ false = sym pair ∙ no_pair in cc)
    never (Some z) listed = elim (cases_Bool (is_on (shows (onward r h w n) i))) [
      | inl both ↦ absurd (there.safe.conflict g i z (record { clearing_of_site = lt; entering_of_site = lt'; listed = listed })
          (length (onward r h w n) - 1) (omega (arith, there.len)) stays both)
      | inr off ↦ off
    ]
