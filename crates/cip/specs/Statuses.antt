-- The statuses of the code's enum, each as document 01 has it.
use Rattle.std.specs.Prelude.{Bool, true, false, ℕ, Option, None, Some}
use Rattle.definition.specs.Reply.{Status as Defined, general, extended, success, no_elements, path_error, path_unknown, partial, not_supported, too_large, too_short, no_attribute, too_long, part_failed, denied, beyond_end, wrong_type}
use Rattle.cip.specs.declared.Status.{Status}
use Rattle.cip.specs.declared.Status.TheVariants.{Success, NoElements, PathError, PathUnknown, Partial, NotSupported, TooLarge, TooShort, NoAttribute, TooLong, PartFailed, Denied, BeyondEnd, WrongType}

abbrev pub status_of : Status → Defined
status_of Success = success
status_of NoElements = no_elements
status_of PathError = path_error
status_of PathUnknown = path_unknown
status_of Partial = partial
status_of NotSupported = not_supported
status_of TooLarge = too_large
status_of TooShort = too_short
status_of NoAttribute = no_attribute
status_of TooLong = too_long
status_of PartFailed = part_failed
status_of Denied = denied
status_of BeyondEnd = beyond_end
status_of WrongType = wrong_type

-- the extended word of a status that brings one, and whether it brings one
abbrev pub word_of : Defined → Option ℕ
word_of (general code) = None
word_of (extended code word) = Some word

abbrev pub has_word : Defined → Bool
has_word (general code) = false
has_word (extended code word) = true
