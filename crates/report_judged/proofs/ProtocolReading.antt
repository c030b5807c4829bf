-- What is read of a log, and kept on a page.
use Rattle.std.proofs.Common.{◌≡◌, ◌∙◌, ℕ, ◌+◌, ◌<◌, ◌≤◌, true, false, List, [], ◌∷◌, ◌++◌, length, Option, None, Some, Ok, Err, refl, sym}
use Rattle.std.specs.Option.{ForSome}
use Rattle.sig_io.specs.Outside.{Contents}
use Rattle.sig_types.specs.Turns.{History, Picture}
use Rattle.log_read.specs.declared.refusal.LogRefusal.{LogRefusal}
use Rattle.log_read.specs.declared.pictures.LogPictures.{LogPictures}
use Rattle.log_read.specs.Answers.{AnswersNext, IsFirst, Reads, Refuses, begin_of, name_of, picture_shown}
use Rattle.log_read.specs.declared.begin.Begin.TheVariants.{Anywhere}
use Rattle.log_protocol.specs.declared.page.Page.{Page}
use Rattle.log_protocol.specs.Page.{IsPageOf}
use Rattle.report_words.specs.declared.stop.JudgeStop.{JudgeStop}
use Rattle.report_judged.specs.ProtocolGathered.{IsGathered, IsUnread}

-- these pictures were read of a log of groups with these names, and the page is theirs
pub record HasGathered (told : Option Contents) (names : List (List ℕ)) (name : List ℕ) (r : LogPictures) (page : Page) : Type 0 where
  pub pictures : List Picture
  pub reads : ForSome told (λ file. Reads r names (file name) pictures)
  pub page_is : IsPageOf page pictures

-- a picture more
pub gather_next : (told : Option Contents) (names : List (List ℕ)) (name : List ℕ) (old new : LogPictures) (page next_page : Page) (p : Picture) →
    name_of old ≡ name → ForSome told (λ file. AnswersNext names (file (name_of old)) old new (Ok true)) → p ≡ picture_shown new →
    ((h : History) → IsPageOf page h → IsPageOf next_page (h ++ p ∷ [])) → HasGathered told names name old page →
    HasGathered told names name new next_page
gather_next told names name old new page next_page p named next shows add has = record {
  pictures = has.pictures ++ p ∷ [];
  reads = λ file is. rw (named, ← shows) at (next file is has.pictures (rw (← named) at (has.reads file is)));
  page_is = add has.pictures has.page_is;
}

-- the end of the log
pub gather_whole : (told : Option Contents) (names : List (List ℕ)) (name : List ℕ) (old new : LogPictures) (page : Page) (first : ℕ) →
    name_of old ≡ name → begin_of old ≡ Anywhere → begin_of new ≡ begin_of old → ForSome told (λ file. AnswersNext names (file (name_of old)) old new (Ok false)) →
    ((names : List (List ℕ)) (bytes : List ℕ) (pictures : List Picture) → Reads new names bytes pictures → IsFirst (begin_of new) bytes pictures first) →
    HasGathered told names name old page →
    ForSome told (λ file. IsGathered names (file name) (record { page = page; first = first }))
gather_whole told names name old new page first named part same next begins has file is =
    let end = next file is has.pictures (rw (← named) at (has.reads file is)) in
    record {
      pictures = has.pictures;
      log = rw (named, part) at end.0;
      page = has.page_is;
      first = rw (named, same, part) at (begins names (file (name_of old)) has.pictures end.1);
    }

-- a line that is refused, or a read that failed
pub unread_next : (told : Option Contents) (names : List (List ℕ)) (name : List ℕ) (old new : LogPictures) (page : Page) (refusal : LogRefusal) (stop : JudgeStop) →
    name_of old ≡ name → begin_of old ≡ Anywhere → ForSome told (λ file. AnswersNext names (file (name_of old)) old new (Err refusal)) →
    ((names : List (List ℕ)) (bytes : List ℕ) (pictures : List Picture) → Refuses Anywhere names bytes pictures refusal → IsUnread names name bytes stop) →
    HasGathered told names name old page → ForSome told (λ file. IsUnread names name (file name) stop)
unread_next told names name old new page refusal stop named part next stops has file is =
    stops names (file name) has.pictures (rw (named, part) at (next file is has.pictures (rw (← named) at (has.reads file is))))
