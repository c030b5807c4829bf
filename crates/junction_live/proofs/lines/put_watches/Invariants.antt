use Rattle.std.proofs.Common.{◌≡◌, ◌++◌, List, length}
use Rattle.sig_io.specs.Draft.{Puts}
use Rattle.junction_live.specs.Sights.{Sight, AreSights, watches_from}
use Rattle.junction_live.proofs.lines.put_watches.Given as goal

abbrev pub invariant-loop-watcher : goal.invariant-loop-watcher
invariant-loop-watcher g l = record {
  publisher : l.publisher ≡ l.fn.publisher;
  rest : l.yielded ++ l.watcher-iterator.rest.items ≡ l.fn.watchers.items;
  number : l.number ≡ length l.yielded;
  put : (sights : List Sight) × AreSights l.number l.fn.publisher.entries sights
      × Puts g.O.Sink.taken g.O.Sink.faults l.fn.draft l.draft l.fn.sink l.sink (watches_from 1 sights);
}
