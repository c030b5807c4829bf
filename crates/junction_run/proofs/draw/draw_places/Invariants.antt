use Rattle.std.proofs.Common.{◌≡◌, ◌<◌, ◌≤◌, All, length, take}
use Rattle.junction_run.specs.Drawn.{after_words, places_to}
use Rattle.junction_run.proofs.draw.draw_places.Given as goal

abbrev pub invariant-loop-place : goal.invariant-loop-place
invariant-loop-place l = record {
  places : take l.count l.places ≡ places_to l.place l.fn.generator;
  few : l.count ≤ l.place;
  inside : All (λ place. place < 12) l.places;
  size : length l.places ≡ 12;
  next : l.generator ≡ after_words l.place l.fn.generator;
}
