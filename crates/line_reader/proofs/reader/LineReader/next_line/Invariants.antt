use Rattle.std.proofs.Common.{◌≡◌, ◌≤◌, ◌+◌, ◌-◌, true}
use Rattle.std.specs.Option.{ForSome}
use Rattle.line_reader.specs.Unread.{unread_bytes, bytes_given, is_ready, longest_of, name_in}
use Rattle.line_reader.proofs.reader.LineReader.next_line.Given as goal

abbrev pub invariant-loop-length : goal.invariant-loop-length
invariant-loop-length g l = record {
  bytes_stay : ForSome (g.F.Files.told l.initial.files) (λ file. unread_bytes l.self (file (name_in l.initial.self)) ≡ unread_bytes l.initial.self (file (name_in l.initial.self)));
  name : name_in l.self ≡ name_in l.initial.self;
  longest : longest_of l.self ≡ longest_of l.initial.self;
  told : g.F.Files.told l.files ≡ g.F.Files.told l.initial.files;
  later : g.F.Files.faults l.initial.files ≤ g.F.Files.faults l.files;
  given : bytes_given l.self ≡ bytes_given l.initial.self;
  unasked : is_ready l.initial.self ≡ true → (l.files ≡ l.initial.files) × (l.self ≡ l.initial.self);
  place : l.self.place + (l.initial.self.end - l.initial.self.start) ≡ l.initial.self.place + (l.self.end - l.self.start);
}

abbrev pub decreases-loop-length : goal.decreases-loop-length
decreases-loop-length g l = l.self.longest + 65536 - (l.self.end - l.self.start)
