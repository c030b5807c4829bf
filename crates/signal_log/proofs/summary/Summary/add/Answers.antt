use Rattle.std.proofs.Common.{◌≡◌, ◌∙◌, ◌+◌, ◌++◌, ◌∷◌, [], length, cond, sym, ap, arith, length-append}
use Rattle.sig_types.specs.Turns.{shown}
use Rattle.std.proofs.lemmas.List.Sums.{count_by-le-length}
use Rattle.signal_log.specs.Summary.{StandsFor, greens, turned, is_rule}
use Rattle.signal_log.proofs.Summed.{greens-more, greens-le, last-more, refusals-more, refused_in-le, faulted-more, faulted-le}
use Rattle.signal_log.proofs.summary.Summary.add.Goals as goal

pub add_greens-requires-clause-groups : goal.add_greens-requires-clause-groups
unfolding StandsFor
add_greens-requires-clause-groups c = c.requires.2.groups_are ∙ sym c.requires.3

pub add_greens-requires-clause-room : goal.add_greens-requires-clause-room
unfolding StandsFor
add_greens-requires-clause-room c = λ g lt.
    omega (arith, c.requires.2.greens_are g (omega (arith, c.requires.3)), greens-le c.requires.0 c.requires.1 g, c.requires.4)

pub add_stages-requires : goal.add_stages-requires
unfolding StandsFor
add_stages-requires c = λ rule.
    omega (arith, c.requires.2.refused_are rule, c.requires.2.refused_fit rule, c.requires.4)

pub add_turns-requires : goal.add_turns-requires
unfolding StandsFor
add_turns-requires c = λ rule.
    omega (
      arith,
      c.requires.2.refused_are rule,
      c.requires.2.refused_fit rule,
      c.requires.4,
      c.add_stages.ensures.more rule,
      count_by-le-length (λ s. is_rule rule s.rule) c.args.rec.now.stages,
      c.add_stages.ensures.few,
    )

pub add_fault-requires : goal.add_fault-requires
unfolding StandsFor
add_fault-requires c = λ kind.
    omega (arith, c.requires.2.faults_are kind, faulted-le kind c.requires.1, c.requires.4)

pub returns : goal.returns
unfolding StandsFor
returns c = λ groups rs s width.
    let r = c.args.rec.now in
    let longer : length (rs ++ r ∷ []) ≡ length rs + 1 = length-append rs (r ∷ []) in record {
      groups_are = ap length c.copy-self.ensures ∙ width;
      last_is = c.copy-self.ensures ∙ sym (last-more groups rs r);
      greens_are = λ g lt. c.add_greens.ensures g (omega (arith, width))
          ∙ ap (λ n. n + cond (turned (shown c.args.self.now.last g) (shown r.picture g)) 1 0) (s.greens_are g lt)
          ∙ ap (λ p. greens groups rs g + cond (turned (shown p g) (shown r.picture g)) 1 0) s.last_is
          ∙ sym (greens-more groups rs r g);
      refused_are = λ rule.
          omega (arith, c.add_turns.ensures.more rule, c.add_stages.ensures.more rule, s.refused_are rule, refusals-more rule rs r);
      faults_are = λ kind. omega (arith, c.add_fault.ensures kind, s.faults_are kind, faulted-more kind rs r);
      refused_fit = λ rule.
          omega (arith, s.refused_fit rule, refusals-more rule rs r, refused_in-le rule r c.add_stages.ensures.few c.add_turns.ensures.few, longer);
    }
