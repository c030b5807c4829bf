use Rattle.std.proofs.Common.{◌∙◌, ◌+◌, [], ◌∷◌, ◌++◌, refl, sym, ap, subst, arith, append_assoc, length-append}
use Rattle.std.proofs.lemmas.List.Elements.{All-push}
use Rattle.sig_io.proofs.Drafts.{nothing, same_put, then}
use Rattle.picture_cell.specs.Sides.{Publishing}
use Rattle.junction_live.specs.Sights.{Sight, IsSight}
use Rattle.junction_live.proofs.Sights.{line_more}
use Rattle.junction_live.proofs.lines.put_watches.Goals as goal

pub loop-watcher-init : goal.loop-watcher-init
loop-watcher-init g c = record {
  publisher = refl;
  rest = c.into_iter-watcher-iterator.ensures.into_iter_gives.0;
  number = refl;
  put = (
    [],
    record { count = refl; each = λ k d lt. absurd (omega (arith, lt)) },
    nothing,
  );
}

pub loop-watcher-preserved : goal.loop-watcher-preserved
loop-watcher-preserved g c =
    let i = c.loop-watcher.invariant in
    let seen = c.close-seen.result in
    let sight : Sight = (seen.second.0, seen.picture) in
    let same : IsSight c.args.publisher.now.entries sight = subst (λ (p : Publishing). IsSight p.entries sight) i.publisher c.close-seen.ensures.published in
    let sights = i.put.0 in
    record {
      publisher = c.close-seen.ensures.entries ∙ i.publisher;
      rest = append_assoc c.loop-watcher.yielded (c.in-Some.watcher ∷ []) c.next.new.self.rest.items ∙
          ap (λ l. c.loop-watcher.yielded ++ l) (sym c.in-Some.ensures.steps.0) ∙ i.rest;
      number = omega (arith, i.number, length-append c.loop-watcher.yielded (c.in-Some.watcher ∷ []));
      put = (
        sights ++ sight ∷ [],
        record {
          count = omega (arith, i.put.1.count, length-append sights (sight ∷ []));
          each =
              All-push (IsSight c.args.publisher.now.entries) sights sight i.put.1.each same;
        },
        same_put (line_more sights sight (c.loop-watcher.number + 1) (omega (arith, i.put.1.count))) (then i.put.2 c.put_watch.ensures),
      );
    }
