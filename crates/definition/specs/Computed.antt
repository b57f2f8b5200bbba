-- The definition on closed messages: with every name of it open, so that antt computes reply, buffer and memory. It says nothing new.
use Rattle.std.specs.Prelude.{List, ℕ}
use Rattle.laws.specs.Items.{items}
use Rattle.laws.specs.Put.{put, laid}
use Rattle.laws.specs.Scan.{scan}
use Rattle.laws.specs.Sorted.{insert, sort, from}
use Rattle.laws.specs.Tests.{every, every_from, some_of, pairs}
use Rattle.laws.specs.Zip.{agree}
use Rattle.definition.specs.Access.{refuses_locals, is_denied, permitted, tag_target}
use Rattle.definition.specs.Answer.{capped, tag_service, by_service, plain, part_dispatch, answer}
use Rattle.definition.specs.Attributes.{attribute_entries, structure_attribute, structure_attributes, symbol_attributes}
use Rattle.definition.specs.Bytes.{numbers, counted}
use Rattle.definition.specs.Envelope.{ascending, parts_from, parts_of, part_answer, run_parts, join_all, offsets_from, envelope_reply, close_envelope, envelope}
use Rattle.definition.specs.Fragment.{rounded, size_of, status_of, fragment_reply, reply_count}
use Rattle.definition.specs.Lookup.{program_in, program_of, tag_in, id_in, member_in, template_in, local_in}
use Rattle.definition.specs.Masked.{masked, takes_mask, masked_stored}
use Rattle.definition.specs.Names.{is_program_name, starts_with, after_prefix}
use Rattle.definition.specs.Page.{bytes_of, fitting, first_unfit, page_reply}
use Rattle.definition.specs.Read.{selected_bytes, selection, ask, send_from, read_at, read_fields, read_reply}
use Rattle.definition.specs.Reply.{reply}
use Rattle.definition.specs.Request.{request_of, is_tag_path}
use Rattle.definition.specs.Resolve.{index_lengths, whole_tag, moves, all_below, row_major, elements_from, index, member_target, visible_member, member_of, walk, in_scope, resolve}
use Rattle.definition.specs.Segment.{kind_of, logical_at, sized_at, link_at, port_at, segment_at, segments_from}
use Rattle.definition.specs.Symbols.{listed_lengths, tag_symbol, other_symbol, in_scope_only, symbols, symbol_attribute, attributes_of, entry_of, listing, due, is_listed, page_start, list_symbols}
use Rattle.definition.specs.Template.{send_template, template_reply}
use Rattle.definition.specs.Types.{atomic_size, has_bits, is_dword_array, size_in, type_header, symbol_type}
use Rattle.definition.specs.Valid.{is_type, structure_encoded, member_encoded, tag_encoded, other_encoded, encoded, t1, is_name, length_by, other_length, is_other_name, tag_names_differ, other_names_differ, program_names_differ, t2, ids_differ, t3, member_fits, structure_fits, t4, zeros_last, is_bool_array, tag_fits, t5, apart, t6, valid}
use Rattle.definition.specs.Write.{fields_of, with_bit, write_bit, type_matches, write_part, write_value, write_stored}
use Rattle.definition.specs.Tables.{Tables, Flags}
use Rattle.definition.specs.Entry.{Entered, entry}

unfoldable pub compute : Tables → Flags → (memory request : List ℕ) (limit : ℕ) (buffer : List ℕ) → Entered
unfolding items put laid scan insert sort from every every_from some_of pairs agree refuses_locals is_denied permitted tag_target capped tag_service by_service plain part_dispatch answer attribute_entries structure_attribute structure_attributes symbol_attributes numbers counted entry ascending parts_from parts_of part_answer run_parts join_all offsets_from envelope_reply close_envelope envelope rounded size_of status_of fragment_reply reply_count program_in program_of tag_in id_in member_in template_in local_in masked takes_mask masked_stored is_program_name starts_with after_prefix bytes_of fitting first_unfit page_reply selected_bytes selection ask send_from read_at read_fields read_reply reply request_of is_tag_path index_lengths whole_tag moves all_below row_major elements_from index member_target visible_member member_of walk in_scope resolve kind_of logical_at sized_at link_at port_at segment_at segments_from listed_lengths tag_symbol other_symbol in_scope_only symbols symbol_attribute attributes_of entry_of listing due is_listed page_start list_symbols send_template template_reply atomic_size has_bits is_dword_array size_in type_header symbol_type is_type structure_encoded member_encoded tag_encoded other_encoded encoded t1 is_name length_by other_length is_other_name tag_names_differ other_names_differ program_names_differ t2 ids_differ t3 member_fits structure_fits t4 zeros_last is_bool_array tag_fits t5 apart t6 valid fields_of with_bit write_bit type_matches write_part write_value write_stored
compute t f memory request limit buffer = entry t f memory request limit buffer
